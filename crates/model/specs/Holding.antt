-- Orders with holds (document 02, Paper 4), on the cells of the listing of Orders.antt: proofs/Orders.antt proves the table by computation.
use Rattle.std.specs.Prelude.{List, [], ◌∷◌, ◌++◌, replicate}
use Rattle.records.specs.declared.Call.TheVariants.{Begin, Read, Write, Seal, Advance, Hold}
use Rattle.records.specs.declared.Answer.TheVariants.{Done, Value, Sealed, Moved, Waiting, Committed, Refused}
use Rattle.model.specs.Orders.{Row, two_cells}

-- `skew` with holds in place of its reads: 0 waits for 1, and 1 meets 0's claim and is rolled back
unfoldable pub skew_held : Row
skew_held =
    two_cells
    (Begin 0 ∷ Begin 1 ∷ Hold 0 0 ∷ Hold 0 1 ∷ Hold 1 0 ∷ Hold 1 1 ∷ Write 0 0 1 ∷ Write 1 1 2 ∷ Seal 0 ∷ Seal 1 ∷ Advance 0 ∷ Advance 1 ∷ replicate 6 (Advance 0))
    (Done ∷ Done ∷ Value 3 ∷ Value 5 ∷ Value 3 ∷ Value 5 ∷ Done ∷ Done ∷ Sealed ∷ Sealed ∷ Waiting 1 ∷ Refused 6 ∷ Moved ∷ Moved ∷ Moved ∷ Moved ∷ Moved ∷ Committed ∷ [])
    (1 ∷ 5 ∷ [])

-- or 1 comes after, and reads what 0 left
unfoldable pub skew_after : Row
skew_after =
    two_cells
    (Begin 0 ∷ Begin 1 ∷ Hold 0 0 ∷ Hold 0 1 ∷ Write 0 0 1 ∷ Seal 0 ∷ replicate 6 (Advance 0)
    ++ (Hold 1 0 ∷ Hold 1 1 ∷ Write 1 1 2 ∷ Seal 1 ∷ replicate 6 (Advance 1)))
    (Done ∷ Done ∷ Value 3 ∷ Value 5 ∷ Done ∷ Sealed ∷ Moved ∷ Moved ∷ Moved ∷ Moved ∷ Moved ∷ Committed
    ∷ Value 1 ∷ Value 5 ∷ Done ∷ Sealed ∷ Moved ∷ Moved ∷ Moved ∷ Moved ∷ Moved ∷ Committed ∷ []) (1 ∷ 2 ∷ [])

-- what was read is written back and not held: the writes of `skew` all the same, and both commit
unfoldable pub skew_back : Row
skew_back =
    two_cells (Begin 0 ∷ Begin 1 ∷ Read 0 1 ∷ Write 0 1 5 ∷ Write 0 0 1 ∷ Read 1 0 ∷ Write 1 0 3 ∷ Write 1 1 2 ∷ Seal 0 ∷ Seal 1 ∷ replicate 3 (Advance 0) ++ replicate 3 (Advance 1))
    (Done ∷ Done ∷ Value 5 ∷ Done ∷ Done ∷ Value 3 ∷ Done ∷ Done ∷ Sealed ∷ Sealed ∷ Moved ∷ Moved ∷ Committed ∷ Moved ∷ Moved ∷ Committed ∷ []) (1 ∷ 2 ∷ [])

-- a session that only reads is sealed between the seal and the commit of one that writes: it comes before
unfoldable pub reader_between : Row
reader_between =
    two_cells (Begin 0 ∷ Begin 1 ∷ Write 0 0 1 ∷ Read 1 0 ∷ Read 1 1 ∷ Seal 0 ∷ Seal 1 ∷ Advance 0 ∷ Advance 0 ∷ Advance 0 ∷ [])
    (Done ∷ Done ∷ Done ∷ Value 3 ∷ Value 5 ∷ Sealed ∷ Committed ∷ Moved ∷ Moved ∷ Committed ∷ []) (1 ∷ 5 ∷ [])

-- a hold without a write publishes the value found, and takes three advances, as a write does
unfoldable pub hold_alone : Row
hold_alone =
    two_cells (Begin 0 ∷ Hold 0 0 ∷ Seal 0 ∷ Advance 0 ∷ Advance 0 ∷ Advance 0 ∷ []) (Done ∷ Value 3 ∷ Sealed ∷ Moved ∷ Moved ∷ Committed ∷ []) (3 ∷ 5 ∷ [])

-- hold, then write: the value written is published, also where it is the one found
unfoldable pub hold_then_write : Row
hold_then_write =
    two_cells (Begin 0 ∷ Hold 0 0 ∷ Write 0 0 4 ∷ Seal 0 ∷ Advance 0 ∷ Advance 0 ∷ Advance 0 ∷ [])
    (Done ∷ Value 3 ∷ Done ∷ Sealed ∷ Moved ∷ Moved ∷ Committed ∷ []) (4 ∷ 5 ∷ [])

unfoldable pub hold_then_back : Row
hold_then_back =
    two_cells (Begin 0 ∷ Hold 0 0 ∷ Write 0 0 3 ∷ Seal 0 ∷ Advance 0 ∷ Advance 0 ∷ Advance 0 ∷ [])
    (Done ∷ Value 3 ∷ Done ∷ Sealed ∷ Moved ∷ Moved ∷ Committed ∷ []) (3 ∷ 5 ∷ [])

-- write, then hold: the hold is answered the value written, and that is published
unfoldable pub write_then_hold : Row
write_then_hold =
    two_cells (Begin 0 ∷ Write 0 0 4 ∷ Hold 0 0 ∷ Seal 0 ∷ Advance 0 ∷ Advance 0 ∷ Advance 0 ∷ [])
    (Done ∷ Done ∷ Value 4 ∷ Sealed ∷ Moved ∷ Moved ∷ Committed ∷ []) (4 ∷ 5 ∷ [])

-- read, then hold, beside a cell merely read, which the seal lets go: session 1 promotes that one, and then waits for the held one
unfoldable pub read_then_hold : Row
read_then_hold =
    two_cells (Begin 0 ∷ Begin 1 ∷ Read 0 0 ∷ Read 0 1 ∷ Hold 0 1 ∷ Write 1 0 4 ∷ Write 1 1 6 ∷ Seal 0 ∷ Seal 1 ∷ Advance 1 ∷ Advance 1 ∷ Advance 0 ∷ [])
    (Done ∷ Done ∷ Value 3 ∷ Value 5 ∷ Value 5 ∷ Done ∷ Done ∷ Sealed ∷ Sealed ∷ Moved ∷ Waiting 1 ∷ Refused 6 ∷ []) (3 ∷ 5 ∷ [])

-- two holders of one cell: one is rolled back, though neither writes
unfoldable pub two_holders : Row
two_holders =
    two_cells (Begin 0 ∷ Begin 1 ∷ Hold 0 0 ∷ Hold 1 0 ∷ Seal 0 ∷ Seal 1 ∷ Advance 0 ∷ Advance 1 ∷ Advance 0 ∷ [])
    (Done ∷ Done ∷ Value 3 ∷ Value 3 ∷ Sealed ∷ Sealed ∷ Waiting 1 ∷ Refused 6 ∷ Moved ∷ []) (3 ∷ 5 ∷ [])

-- a hold of a claimed cell is 6
unfoldable pub hold_past_claim : Row
hold_past_claim =
    two_cells (Begin 0 ∷ Begin 1 ∷ Read 1 0 ∷ Hold 0 0 ∷ Seal 0 ∷ Advance 0 ∷ Begin 2 ∷ Hold 2 1 ∷ Hold 2 0 ∷ [])
    (Done ∷ Done ∷ Value 3 ∷ Value 3 ∷ Sealed ∷ Waiting 1 ∷ Done ∷ Value 5 ∷ Refused 6 ∷ []) (3 ∷ 5 ∷ [])

unfoldable pub holding : List Row
holding =
    skew_held ∷ skew_after ∷ skew_back ∷ reader_between ∷ hold_alone ∷ hold_then_write ∷ hold_then_back ∷ write_then_hold ∷ read_then_hold ∷ two_holders ∷ hold_past_claim ∷ []
