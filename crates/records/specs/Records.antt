-- A session's record in its phases, an answer's number and value, and the session of a call.
use Rattle.std.specs.Prelude.{ℕ, suc, Result, Ok, Err}
use Rattle.records.specs.declared.Session.{Session}
use Rattle.records.specs.declared.Call.{Call}
use Rattle.records.specs.declared.Call.TheVariants.{Begin, Read, Write, Seal, Advance, Abandon, Peek, Hold}
use Rattle.records.specs.declared.Answer.{Answer}
use Rattle.records.specs.declared.Refusal.{Refusal}
use Rattle.records.specs.declared.Refusal.TheVariants.{UnknownSession, WrongPhase, UnknownCell, AboveCap, FullLog, Conflict, WrongLengths, UnknownClass, DamagedRecord, ShortTarget, NotEntered, WrongList, WrongCaps, ValueAboveCaps}
use Rattle.records.specs.declared.Answer.TheVariants.{Done, Value, Sealed, Moved, Waiting, Committed, Refused}

-- ---- session records

abbrev pub idle : Session
idle = record { phase = 0; count = 0; next = 0 }

abbrev pub running : Session
running = record { phase = 1; count = 0; next = 0 }

abbrev pub with_entry : Session → Session
with_entry x = record { phase = x.phase; count = suc x.count; next = x.next }

-- with k entries in all
abbrev pub with_entries : ℕ → Session → Session
with_entries k x = record { phase = x.phase; count = k; next = x.next }

abbrev pub move_to : ℕ → ℕ → Session → Session
move_to phase next x = record { phase = phase; count = x.count; next = next }

-- ---- answers

-- 100 done, 101 a value, 102 sealed, 103 moved, 104 waiting, 105 committed; a refusal's own number
abbrev pub number : Answer → ℕ
number Done = 100
number (Value v) = 101
number Sealed = 102
number Moved = 103
number (Waiting k) = 104
number Committed = 105
number (Refused k) = k

-- document 01's number of a refusal
abbrev pub refusal_number : Refusal → ℕ
refusal_number UnknownSession = 1
refusal_number WrongPhase = 2
refusal_number UnknownCell = 3
refusal_number AboveCap = 4
refusal_number FullLog = 5
refusal_number Conflict = 6
refusal_number WrongLengths = 7
refusal_number UnknownClass = 8
refusal_number DamagedRecord = 9
refusal_number ShortTarget = 13
refusal_number NotEntered = 14
refusal_number WrongList = 15
refusal_number WrongCaps = 16
refusal_number ValueAboveCaps = 17

-- the number of a test's refusal; 0 where it refuses nothing
abbrev pub refusal_of : {A : Type 0} → Result A Refusal → ℕ
refusal_of (Ok _) = 0
refusal_of (Err r) = refusal_number r

-- what a call that answers nothing but 100 answers
abbrev pub answered : {A : Type 0} → Result A Refusal → Answer
answered (Ok _) = Done
answered (Err r) = Refused (refusal_number r)

-- 0 except with 101 and 104 (document 02, Paper 6)
abbrev pub value_of : Answer → ℕ
value_of Done = 0
value_of (Value v) = v
value_of Sealed = 0
value_of Moved = 0
value_of (Waiting k) = k
value_of Committed = 0
value_of (Refused k) = 0

-- ---- calls

abbrev pub session_of : Call → ℕ
session_of (Begin s) = s
session_of (Read s c) = s
session_of (Write s c v) = s
session_of (Seal s) = s
session_of (Advance s) = s
session_of (Abandon s) = s
session_of (Peek s c) = s
session_of (Hold s c) = s
