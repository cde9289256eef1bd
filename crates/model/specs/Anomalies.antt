-- Small histories to judge the claim by: eight that must not pass, as a store without the method would answer, and one that must; written in the order of the calls.
use Rattle.std.specs.Prelude.{ℕ, List, [], ◌∷◌, reverse}
use Rattle.records.specs.declared.Call.TheVariants.{Begin, Read, Write, Seal, Advance, Hold}
use Rattle.records.specs.declared.Answer.TheVariants.{Done, Value, Sealed, Moved, Committed}
use Rattle.model.specs.History.{Event, event, with_found, reads_event}

-- both transactions read 3 in cell 0, write other values there and commit: one update is lost
unfoldable pub lost_update : List Event
lost_update =
    reverse
    (event (Begin 0) Done ∷ event (Begin 1) Done ∷ event (Read 0 0) (Value 3) ∷ event (Read 1 0) (Value 3) ∷ with_found 3 (event (Write 0 0 4) Done)
    ∷ with_found 3 (event (Write 1 0 2) Done) ∷ event (Seal 0) Sealed ∷ event (Seal 1) Sealed ∷ event (Advance 0) Moved ∷ event (Advance 1) Moved ∷ [])

-- session 1 reads 4 in cell 0 while session 0, which wrote it, has not committed
unfoldable pub dirty_read : List Event
dirty_read = reverse (event (Begin 0) Done ∷ with_found 3 (event (Write 0 0 4) Done) ∷ event (Begin 1) Done ∷ event (Read 1 0) (Value 4) ∷ event (Seal 1) Committed ∷ [])

-- session 0 commits 4 and 6, session 1 then 1 and 2; session 2 reads the first's 4 in cell 0 and the second's 2 in cell 1
unfoldable pub broken_snapshot : List Event
broken_snapshot =
    reverse
    (event (Begin 0) Done ∷ with_found 3 (event (Write 0 0 4) Done) ∷ with_found 5 (event (Write 0 1 6) Done) ∷ event (Seal 0) Sealed ∷ event (Advance 0) Moved ∷ event (Advance 0) Moved
    ∷ event (Begin 1) Done ∷ with_found 4 (event (Write 1 0 1) Done) ∷ with_found 6 (event (Write 1 1 2) Done) ∷ event (Seal 1) Sealed ∷ event (Advance 1) Moved ∷ event (Advance 1) Moved
    ∷ event (Begin 2) Done ∷ event (Read 2 0) (Value 4) ∷ event (Read 2 1) (Value 2) ∷ event (Seal 2) Committed ∷ [])

-- session 0 reads 6 in cell 1, which session 1 commits after session 0's snapshot and before its commit
unfoldable pub read_ahead : List Event
read_ahead =
    reverse
    (event (Begin 0) Done ∷ event (Read 0 1) (Value 6) ∷ with_found 3 (event (Write 0 0 4) Done) ∷ event (Begin 1) Done ∷ with_found 5 (event (Write 1 1 6) Done) ∷ event (Seal 1) Sealed
    ∷ event (Seal 0) Sealed ∷ event (Advance 1) Moved ∷ event (Advance 0) Moved ∷ [])

-- session 0 commits 4 to cell 0 and 6 to cell 1; session 1 then reads both in one call, and gets v of cell 1: 6 must pass, and the older 5 must not
unfoldable pub read_together : ℕ → List Event
read_together v =
    reverse
    (event (Begin 0) Done ∷ with_found 3 (event (Write 0 0 4) Done) ∷ with_found 5 (event (Write 0 1 6) Done) ∷ event (Seal 0) Sealed ∷ event (Advance 0) Moved ∷ event (Advance 0) Moved
    ∷ event (Advance 0) Moved ∷ event (Advance 0) Moved ∷ event (Advance 0) Moved ∷ event (Advance 0) Committed
    ∷ event (Begin 1) Done ∷ reads_event 1 (0 ∷ 1 ∷ []) 2 (4 ∷ v ∷ []) (Value v) ∷ event (Seal 1) Committed ∷ [])

-- session 0 writes 4 to cell 0 and commits with its seal, since its log says that it found f there: with 4 nothing would be written, but the store has 3
unfoldable pub found_as : ℕ → List Event
found_as f = reverse (event (Begin 0) Done ∷ with_found f (event (Write 0 0 4) Done) ∷ event (Seal 0) Committed ∷ [])

-- both sessions hold cell 0 and write nothing there, and commit with spans that meet
unfoldable pub held_together : List Event
held_together =
    reverse
    (event (Begin 0) Done ∷ event (Begin 1) Done ∷ with_found 3 (event (Hold 0 0) (Value 3)) ∷ with_found 3 (event (Hold 1 0) (Value 3)) ∷ event (Seal 0) Sealed ∷ event (Seal 1) Sealed
    ∷ event (Advance 0) Moved ∷ event (Advance 1) Moved ∷ [])

-- session 0 holds cell 0 and is answered 4, which nobody committed
unfoldable pub held_stale : List Event
held_stale = reverse (event (Begin 0) Done ∷ with_found 3 (event (Hold 0 0) (Value 4)) ∷ event (Seal 0) Sealed ∷ event (Advance 0) Moved ∷ [])
