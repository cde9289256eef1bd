-- The words of demand 3, read off small histories in numerals (document 01, "What demand 3 counts"): ReadWords.antt of crate model_claims proves the
-- tables by computation. Calls, events and items stand in their order here.
use Rattle.std.specs.Prelude.{ℕ, Bool, true, false, List, [], ◌∷◌, ◌++◌, reverse, replicate}
use Rattle.records.specs.declared.Call.{Call}
use Rattle.records.specs.declared.Call.TheVariants.{Begin, Read, Write, Seal, Advance, Abandon, Peek, Hold}
use Rattle.records.specs.declared.Answer.{Answer}
use Rattle.records.specs.declared.Answer.TheVariants.{Done, Value, Sealed, Moved, Waiting, Committed, Refused}
use Rattle.model.specs.Buffers.{Store, idle, ours}
use Rattle.model.specs.History.{Event, event, with_found, reads_event, Item, item, told, Name, name, transaction, is_open, wrote, value_written, reads_before_writing, values_found, snapshot, commit, committed}
use Rattle.model.specs.Serial.{Serial, serial}
use Rattle.model.specs.Told.{Told, began, got, put, held, sealed, moved, ended, ReadOf}

-- ---- what a call with its answer tells, where 6 is the value found: a write and a hold tell it

pub record Telling : Type 0 where
  pub call : Call
  pub answer : Answer
  pub found : ℕ
  pub told : List Told

abbrev telling : Call → Answer → List Told → Telling
telling k a ws = record { call = k; answer = a; found = 6; told = ws }

unfoldable pub tellings : List Telling
tellings =
    telling (Begin 1) Done (began ∷ []) ∷ telling (Begin 1) (Refused 2) [] ∷ telling (Begin 1) (Refused 6) (ended ∷ [])
    ∷ telling (Read 1 2) (Value 7) (got 2 7 ∷ []) ∷ telling (Read 1 2) (Refused 3) [] ∷ telling (Read 1 2) (Refused 6) (ended ∷ [])
    ∷ telling (Read 1 2) Done [] ∷ telling (Read 1 2) Committed (ended ∷ [])
    ∷ telling (Write 1 2 7) Done (put 2 7 6 ∷ []) ∷ telling (Write 1 2 7) (Refused 4) [] ∷ telling (Write 1 2 7) (Refused 6) (ended ∷ [])
    -- the newest first: the end, and before it the seal
    ∷ telling (Seal 1) Sealed (sealed ∷ []) ∷ telling (Seal 1) Committed (ended ∷ sealed ∷ []) ∷ telling (Seal 1) (Refused 2) []
    ∷ telling (Seal 1) (Refused 6) (ended ∷ [])
    ∷ telling (Advance 1) Moved (moved ∷ []) ∷ telling (Advance 1) (Waiting 1) [] ∷ telling (Advance 1) Committed (ended ∷ [])
    ∷ telling (Advance 1) (Refused 6) (ended ∷ []) ∷ telling (Advance 1) (Refused 2) []
    ∷ telling (Abandon 1) Done (ended ∷ []) ∷ telling (Abandon 1) (Refused 2) [] ∷ telling (Abandon 1) (Refused 6) (ended ∷ [])
    -- a peek gets nothing as read does
    ∷ telling (Peek 1 2) Done [] ∷ telling (Peek 1 2) (Refused 14) [] ∷ telling (Peek 1 2) (Refused 6) (ended ∷ [])
    ∷ telling (Hold 1 2) (Value 7) (held 2 7 6 ∷ []) ∷ telling (Hold 1 2) (Refused 5) [] ∷ telling (Hold 1 2) (Refused 6) (ended ∷ []) ∷ telling (Hold 1 2) Done []
    ∷ []

-- ---- what many reads tell, by the cells, the values obtained and the last answer

pub record ReadsTelling : Type 0 where
  pub cells : List ℕ
  pub values : List ℕ
  pub answer : Answer
  pub told : List Told

abbrev reads_telling : List ℕ → List ℕ → Answer → List Told → ReadsTelling
reads_telling cs vs a ws = record { cells = cs; values = vs; answer = a; told = ws }

unfoldable pub reads_tellings : List ReadsTelling
reads_tellings =
    -- the newest first: the last cell's value, and before it the first's
    reads_telling (2 ∷ 0 ∷ []) (7 ∷ 3 ∷ []) (Value 3) (got 0 3 ∷ got 2 7 ∷ []) ∷ reads_telling (1 ∷ []) (5 ∷ []) (Value 5) (got 1 5 ∷ [])
    -- stopped by 6: the values, and after them the end; by 3 and by 5 no end
    ∷ reads_telling (2 ∷ 0 ∷ 1 ∷ 3 ∷ []) (7 ∷ 3 ∷ []) (Refused 6) (ended ∷ got 0 3 ∷ got 2 7 ∷ []) ∷ reads_telling (2 ∷ 0 ∷ []) [] (Refused 6) (ended ∷ [])
    ∷ reads_telling (2 ∷ 9 ∷ 1 ∷ []) (7 ∷ []) (Refused 3) (got 2 7 ∷ []) ∷ reads_telling (2 ∷ 0 ∷ []) (7 ∷ []) (Refused 5) (got 2 7 ∷ []) ∷ reads_telling (2 ∷ 0 ∷ []) [] (Refused 2) []
    -- refused as a whole
    ∷ reads_telling [] [] (Refused 15) [] ∷ reads_telling (replicate 33 2) [] (Refused 15) [] ∷ reads_telling (2 ∷ 0 ∷ []) [] (Refused 13) []
    ∷ []

-- ---- what is read of a transaction

-- of a transaction, and of two cells: it is open; it wrote cells 0 and 1, and the values; reads before writing; snapshot; commit; committed
pub record Word : Type 0 where
  pub goes_on : Bool
  pub wrote0 : Bool
  pub wrote1 : Bool
  pub value0 : ℕ
  pub value1 : ℕ
  pub reads : List ReadOf
  pub snapshot : ℕ
  pub commit : ℕ
  pub committed : Bool

abbrev word : Bool → Bool → Bool → ℕ → ℕ → List ReadOf → ℕ → ℕ → Bool → Word
word o a b v w r s c d = record { goes_on = o; wrote0 = a; wrote1 = b; value0 = v; value1 = w; reads = r; snapshot = s; commit = c; committed = d }

-- it tells nothing
abbrev nothing : Word
nothing = word false false false 0 0 [] 0 0 false

-- what is told at the start, events, a transaction's name, and what is read of it
pub record Row : Type 0 where
  pub start : List Item
  pub events : List Event
  pub name : Name
  pub word : Word

abbrev row : List Event → Name → Word → Row
row h x w = record { start = []; events = h; name = x; word = w }

abbrev read : ℕ → ℕ → ReadOf
read c v = record { cell = c; value = v }

unfoldable pub word_of : Row → Word
word_of r =
    let t = transaction r.name (told (reverse r.start) (reverse r.events)) in
    record { goes_on = is_open t; wrote0 = wrote t 0; wrote1 = wrote t 1; value0 = value_written t 0; value1 = value_written t 1; reads = reads_before_writing t; snapshot = snapshot t; commit = commit 2 t; committed = committed 2 t }

-- two sessions, of which the second commits; and one session's two transactions
abbrev both : List Event
both = event (Begin 0) Done ∷ event (Begin 1) Done ∷ with_found 3 (event (Write 1 0 4) Done) ∷ event (Seal 1) Sealed ∷ event (Advance 1) Moved ∷ []

abbrev again : List Event
again = event (Begin 0) Done ∷ with_found 3 (event (Write 0 0 4) Done) ∷ event (Abandon 0) Done ∷ event (Begin 0) Done ∷ with_found 5 (event (Write 0 1 2) Done) ∷ []

-- two transactions open where the list starts, and what they do later
abbrev at_start : Name → Word → Row
at_start x w =
    record {
      start = item 0 0 began ∷ item 0 0 (put 0 4 3) ∷ item 0 1 began ∷ item 0 1 (got 1 5) ∷ [];
      events = event (Seal 1) Committed ∷ event (Seal 0) Sealed ∷ event (Advance 0) Moved ∷ [];
      name = x;
      word = w;
    }

unfoldable pub rows : List Row
rows =
    -- an answer 6 ends it: what the session does later is another's
    row (event (Begin 0) Done ∷ event (Read 0 0) (Refused 6) ∷ with_found 5 (event (Write 0 1 4) Done) ∷ []) (name 1 0) nothing
    -- so does an answer 105
    ∷ row (event (Begin 0) Done ∷ event (Seal 0) Committed ∷ with_found 5 (event (Write 0 1 4) Done) ∷ []) (name 1 0) (word false false false 0 0 [] 2 2 true)
    -- an abandon answered 100 ends it; one that is refused does not
    ∷ row (event (Begin 0) Done ∷ event (Abandon 0) Done ∷ with_found 5 (event (Write 0 1 4) Done) ∷ []) (name 1 0) nothing
    ∷ row (event (Begin 0) Done ∷ event (Abandon 0) (Refused 2) ∷ with_found 5 (event (Write 0 1 4) Done) ∷ []) (name 1 0) (word true false true 0 4 [] 0 0 false)
    -- the last write answered 100 gives the value, a refused one does not count; a read after an own write is none of the snapshot's
    ∷ row (event (Begin 0) Done ∷ event (Read 0 0) (Value 3) ∷ with_found 3 (event (Write 0 0 4) Done) ∷ with_found 3 (event (Write 0 0 6) Done) ∷ event (Write 0 0 9) (Refused 4)
    ∷ event (Write 0 1 9) (Refused 4) ∷ event (Read 0 0) (Value 6) ∷ event (Read 0 1) (Refused 3) ∷ []) (name 1 0) (word true true false 6 0 (read 0 3 ∷ []) 0 0 false)
    -- each read counts, also after a write to another cell; a peek does not
    ∷ row (event (Begin 0) Done ∷ event (Read 0 1) (Value 5) ∷ with_found 3 (event (Write 0 0 4) Done) ∷ event (Peek 0 1) Done ∷ event (Read 0 1) (Value 7) ∷ []) (name 1 0)
    (word true true false 4 0 (read 1 7 ∷ read 1 5 ∷ []) 0 0 false)
    -- the values of many reads are reads before writing, and have one place: the seal after them is at place 3
    ∷ row (event (Begin 0) Done ∷ reads_event 0 (0 ∷ 1 ∷ []) 2 (3 ∷ 5 ∷ []) (Value 5) ∷ event (Seal 0) Committed ∷ []) (name 1 0)
    (word false false false 0 0 (read 1 5 ∷ read 0 3 ∷ []) 3 3 true)
    -- but not that of a cell that it wrote
    ∷ row (event (Begin 0) Done ∷ with_found 3 (event (Write 0 0 4) Done) ∷ reads_event 0 (0 ∷ 1 ∷ 0 ∷ []) 3 (4 ∷ 5 ∷ 4 ∷ []) (Value 4) ∷ []) (name 1 0)
    (word true true false 4 0 (read 1 5 ∷ []) 0 0 false)
    -- an answer 6 to them ends it, after the values that were obtained; 3 does not, nor do another session's reads
    ∷ row (event (Begin 0) Done ∷ reads_event 0 (0 ∷ 1 ∷ []) 2 (3 ∷ []) (Refused 6) ∷ with_found 5 (event (Write 0 1 4) Done) ∷ []) (name 1 0) (word false false false 0 0 (read 0 3 ∷ []) 0 0 false)
    ∷ row (event (Begin 0) Done ∷ reads_event 0 (0 ∷ 2 ∷ []) 2 (3 ∷ []) (Refused 3) ∷ with_found 5 (event (Write 0 1 4) Done) ∷ reads_event 1 (0 ∷ 1 ∷ []) 2 (7 ∷ []) (Refused 6) ∷ []) (name 1 0)
    (word true false true 0 4 (read 0 3 ∷ []) 0 0 false)
    -- 104 does not count towards the commit, nor does an answer 103 after it change it; another session's calls are not its own
    ∷ row (event (Begin 0) Done ∷ event (Begin 1) Done ∷ with_found 3 (event (Write 0 0 4) Done) ∷ with_found 5 (event (Write 1 1 2) Done) ∷ with_found 5 (event (Write 0 1 6) Done) ∷ event (Seal 0) Sealed
    ∷ event (Advance 0) (Waiting 1) ∷ event (Advance 0) Moved ∷ event (Advance 1) Moved ∷ event (Advance 0) Moved ∷ event (Advance 0) Moved ∷ []) (name 1 0)
    (word true true true 4 6 [] 6 10 true)
    -- cells are counted, not writes
    ∷ row (event (Begin 0) Done ∷ with_found 3 (event (Write 0 0 4) Done) ∷ with_found 3 (event (Write 0 0 6) Done) ∷ event (Seal 0) Sealed ∷ event (Advance 0) Moved ∷ []) (name 1 0)
    (word true true false 6 0 [] 4 5 true)
    -- a cell written back is not written: where there is no other the commit is the seal; a read after the own write is none of the snapshot's all the same
    ∷ row (event (Begin 0) Done ∷ event (Read 0 0) (Value 3) ∷ with_found 3 (event (Write 0 0 3) Done) ∷ event (Read 0 0) (Value 3) ∷ event (Seal 0) Committed ∷ []) (name 1 0)
    (word false false false 3 0 (read 0 3 ∷ []) 5 5 true)
    -- the last write counts: another value and then the one found is not written, the one found and then another is
    ∷ row (event (Begin 0) Done ∷ with_found 3 (event (Write 0 0 4) Done) ∷ with_found 3 (event (Write 0 0 3) Done) ∷ event (Seal 0) Committed ∷ []) (name 1 0)
    (word false false false 3 0 [] 4 4 true)
    ∷ row (event (Begin 0) Done ∷ with_found 3 (event (Write 0 0 3) Done) ∷ with_found 3 (event (Write 0 0 4) Done) ∷ event (Seal 0) Sealed ∷ event (Advance 0) Moved ∷ []) (name 1 0)
    (word true true false 4 0 [] 4 5 true)
    -- of two cells with a write one is changed: the first answer 103 makes the commit
    ∷ row (event (Begin 0) Done ∷ with_found 3 (event (Write 0 0 3) Done) ∷ with_found 5 (event (Write 0 1 6) Done) ∷ event (Seal 0) Sealed ∷ event (Advance 0) Moved ∷ event (Advance 0) Moved ∷ [])
    (name 1 0) (word true false true 3 6 [] 4 5 true)
    -- a held cell is written, with the value found; what the hold got is read before writing
    ∷ row (event (Begin 0) Done ∷ with_found 3 (event (Hold 0 0) (Value 3)) ∷ event (Seal 0) Sealed ∷ event (Advance 0) Moved ∷ []) (name 1 0) (word true true false 3 0 (read 0 3 ∷ []) 3 4 true)
    -- with the value of a later write, and of an earlier one, also where it is the one found; after an own write the hold is none of the snapshot's
    ∷ row (event (Begin 0) Done ∷ with_found 3 (event (Hold 0 0) (Value 3)) ∷ with_found 3 (event (Write 0 0 4) Done) ∷ []) (name 1 0) (word true true false 4 0 (read 0 3 ∷ []) 0 0 false)
    ∷ row (event (Begin 0) Done ∷ with_found 3 (event (Write 0 0 4) Done) ∷ with_found 3 (event (Hold 0 0) (Value 4)) ∷ []) (name 1 0) (word true true false 4 0 [] 0 0 false)
    ∷ row (event (Begin 0) Done ∷ with_found 3 (event (Write 0 0 4) Done) ∷ with_found 3 (event (Write 0 0 3) Done) ∷ with_found 3 (event (Hold 0 0) (Value 3)) ∷ event (Seal 0) Sealed ∷ []) (name 1 0)
    (word true true false 3 0 [] 5 0 false)
    ∷ row (event (Begin 0) Done ∷ with_found 3 (event (Hold 0 0) (Value 3)) ∷ with_found 3 (event (Write 0 0 3) Done) ∷ event (Seal 0) Sealed ∷ event (Advance 0) Moved ∷ []) (name 1 0)
    (word true true false 3 0 (read 0 3 ∷ []) 4 5 true)
    -- a read after a hold counts, and so does a second hold; a cell held and one changed make two, and the second answer 103 is the commit
    ∷ row (event (Begin 0) Done ∷ with_found 3 (event (Hold 0 0) (Value 3)) ∷ event (Read 0 0) (Value 3) ∷ with_found 3 (event (Hold 0 0) (Value 3)) ∷ with_found 5 (event (Write 0 1 6) Done)
    ∷ event (Seal 0) Sealed ∷ event (Advance 0) Moved ∷ event (Advance 0) Moved ∷ event (Advance 0) Moved ∷ []) (name 1 0)
    (word true true true 3 6 (read 0 3 ∷ read 0 3 ∷ read 0 3 ∷ []) 6 8 true)
    -- a refused hold holds nothing, and one that is answered 6 ends it
    ∷ row (event (Begin 0) Done ∷ event (Hold 0 0) (Refused 5) ∷ event (Hold 0 1) (Refused 6) ∷ with_found 3 (event (Hold 0 0) (Value 3)) ∷ []) (name 1 0) nothing
    -- sealed, and not committed
    ∷ row (event (Begin 0) Done ∷ with_found 5 (event (Write 0 1 4) Done) ∷ event (Seal 0) (Refused 9) ∷ event (Seal 0) Sealed ∷ event (Advance 0) (Waiting 1) ∷ []) (name 1 0)
    (word true false true 0 4 [] 4 0 false)
    -- nothing written: the commit is the seal
    ∷ row (event (Begin 0) Done ∷ event (Read 0 1) (Value 5) ∷ event (Seal 0) Committed ∷ []) (name 1 0) (word false false false 0 0 (read 1 5 ∷ []) 3 3 true)
    -- a refused begin begins none
    ∷ row (event (Begin 0) (Refused 2) ∷ with_found 3 (event (Write 0 0 4) Done) ∷ []) (name 1 0) nothing
    -- a name is the place of a begin and its session
    ∷ row both (name 2 1) (word true true false 4 0 [] 4 5 true) ∷ row both (name 1 0) (word true false false 0 0 [] 0 0 false)
    ∷ row both (name 1 1) nothing ∷ row both (name 2 0) nothing ∷ row both (name 3 1) nothing
    ∷ row again (name 1 0) (word false true false 4 0 [] 0 0 false) ∷ row again (name 4 0) (word true false true 0 2 [] 0 0 false)
    -- two of one place, the start's
    ∷ at_start (name 0 0) (word true true false 4 0 [] 2 3 true) ∷ at_start (name 0 1) (word false false false 0 0 (read 1 5 ∷ []) 1 1 true) ∷ at_start (name 0 2) nothing
    ∷ []

-- the values found: of each write answered 100 and each hold answered 101, the newest first; of a refused one and of a read none
pub record FoundRow : Type 0 where
  pub events : List Event
  pub found : List ReadOf

abbrev found_row : List Event → List ReadOf → FoundRow
found_row h rs = record { events = h; found = rs }

unfoldable pub found_of_row : FoundRow → List ReadOf
found_of_row r = values_found (transaction (name 1 0) (told [] (reverse r.events)))

unfoldable pub found_rows : List FoundRow
found_rows =
    found_row (event (Begin 0) Done ∷ event (Read 0 0) (Value 3) ∷ with_found 3 (event (Write 0 0 4) Done) ∷ with_found 5 (event (Write 0 1 5) Done) ∷ with_found 3 (event (Write 0 0 6) Done) ∷ [])
    (read 0 3 ∷ read 1 5 ∷ read 0 3 ∷ [])
    ∷ found_row (event (Begin 0) Done ∷ with_found 3 (event (Write 0 0 4) Done) ∷ with_found 3 (event (Hold 0 0) (Value 4)) ∷ with_found 5 (event (Hold 0 1) (Value 5)) ∷ with_found 3 (event (Hold 0 0) (Refused 9)) ∷ [])
    (read 1 5 ∷ read 0 3 ∷ read 0 3 ∷ [])
    ∷ found_row (event (Begin 0) Done ∷ with_found 3 (event (Write 0 0 9) (Refused 4)) ∷ with_found 3 (event (Write 1 0 4) Done) ∷ []) []
    ∷ []

-- ---- the serial store

-- events, and the serial store after them, from the values 3 and 5
pub record SerialRow : Type 0 where
  pub events : List Event
  pub serial : Serial

abbrev serial_row : List Event → List ℕ → List ℕ → SerialRow
serial_row h vs ds = record { events = h; serial = record { values = vs; draft = ds } }

unfoldable pub serial_of : SerialRow → Serial
serial_of r = serial (3 ∷ 5 ∷ []) (reverse r.events)

unfoldable pub serial_rows : List SerialRow
serial_rows =
    -- a write is in the draft
    serial_row (event (Begin 0) Done ∷ with_found 5 (event (Write 0 1 4) Done) ∷ event (Write 0 0 9) (Refused 4) ∷ event (Seal 0) Sealed ∷ event (Advance 0) Moved ∷ [])
    (3 ∷ 5 ∷ []) (3 ∷ 4 ∷ [])
    -- and in the values with the answer 105, not with 103
    ∷ serial_row (event (Begin 0) Done ∷ with_found 5 (event (Write 0 1 4) Done) ∷ event (Seal 0) Sealed ∷ event (Advance 0) Moved ∷ event (Advance 0) Moved
    ∷ event (Advance 0) Committed ∷ []) (3 ∷ 4 ∷ []) (3 ∷ 4 ∷ [])
    -- all its writes are
    ∷ serial_row (event (Begin 0) Done ∷ with_found 5 (event (Write 0 1 4) Done) ∷ with_found 3 (event (Write 0 0 6) Done) ∷ []) (3 ∷ 5 ∷ []) (6 ∷ 4 ∷ [])
    -- an abandoned draft is gone with the next begin
    ∷ serial_row (event (Begin 0) Done ∷ with_found 5 (event (Write 0 1 4) Done) ∷ event (Abandon 0) Done ∷ event (Begin 1) Done ∷ event (Read 1 1) (Value 5)
    ∷ event (Seal 1) Committed ∷ []) (3 ∷ 5 ∷ []) (3 ∷ 5 ∷ [])
    -- a value written back is in the draft, and the values are what they were
    ∷ serial_row (event (Begin 0) Done ∷ with_found 5 (event (Write 0 1 4) Done) ∷ with_found 5 (event (Write 0 1 5) Done) ∷ event (Seal 0) Committed ∷ []) (3 ∷ 5 ∷ []) (3 ∷ 5 ∷ [])
    -- a hold leaves both as they are
    ∷ serial_row (event (Begin 0) Done ∷ with_found 5 (event (Write 0 1 4) Done) ∷ with_found 5 (event (Hold 0 1) (Value 4)) ∷ with_found 3 (event (Hold 0 0) (Value 3)) ∷ []) (3 ∷ 5 ∷ []) (3 ∷ 4 ∷ [])
    -- many reads leave both as they are, also those that a conflict stops
    ∷ serial_row (event (Begin 0) Done ∷ with_found 5 (event (Write 0 1 4) Done) ∷ reads_event 0 (1 ∷ 0 ∷ []) 2 (4 ∷ 3 ∷ []) (Value 3) ∷ []) (3 ∷ 5 ∷ []) (3 ∷ 4 ∷ [])
    ∷ serial_row (event (Begin 0) Done ∷ with_found 5 (event (Write 0 1 4) Done) ∷ reads_event 0 (1 ∷ 0 ∷ []) 2 (4 ∷ []) (Refused 6) ∷ []) (3 ∷ 5 ∷ []) (3 ∷ 4 ∷ [])
    ∷ []

-- ---- histories and stores that a claim holds of, or does not

-- session 0 commits 4 to cell 1 at place 4; session 1 then reads it
unfoldable pub wrote_then_read : List Event
wrote_then_read =
    reverse
    (event (Begin 0) Done ∷ with_found 5 (event (Write 0 1 4) Done) ∷ event (Seal 0) Sealed ∷ event (Advance 0) Moved ∷ event (Begin 1) Done ∷ event (Read 1 1) (Value 4)
    ∷ event (Seal 1) Committed ∷ [])

-- the first reader gets the starting value of cell 1
unfoldable pub first_read : List Event
first_read = reverse (event (Begin 0) Done ∷ event (Read 0 1) (Value 5) ∷ event (Seal 0) Committed ∷ [])

-- two cells, of classes 2 and 1; session 1 is in a phase with its entry of cell 0 written, whose lock has a claimant and a mark
unfoldable pub midway : ℕ → ℕ → ℕ → ℕ → Store
midway phase value claimant mark =
    record {
      lent = record {
        values = 3 ∷ 5 ∷ [];
        classes = 2 ∷ 1 ∷ [];
        locks = record { readers = 2 ∷ 0 ∷ []; claimants = claimant ∷ 16 ∷ []; exclusives = mark ∷ 0 ∷ [] };
        logs = replicate 128 0 ++ (0 ∷ 3 ∷ value ∷ 1 ∷ replicate 1916 0);
      };
      limits = ours;
      sessions = record { records = idle ∷ record { phase = phase; count = 1; next = 0 } ∷ replicate 14 idle };
    }

-- what its transaction has told where it runs and has read a value, and where it is sealed
unfoldable pub told_running : ℕ → List Item
told_running v = reverse (item 0 1 began ∷ item 0 1 (got 0 v) ∷ item 0 1 (put 0 4 3) ∷ [])

unfoldable pub told_sealed : List Item
told_sealed = reverse (item 0 1 began ∷ item 0 1 (put 0 4 3) ∷ item 0 1 sealed ∷ [])
