-- A reply in numbers; and which answers a begin, a read, a hold and a seal give, for the functions that turn these into numbers.
use Rattle.std.specs.Prelude.{ℕ, Bool, true, false}
use Rattle.records.specs.declared.Answer.{Answer}
use Rattle.records.specs.declared.Answer.TheVariants.{Done, Value, Sealed, Moved, Waiting, Committed, Refused}
use Rattle.records.specs.declared.SessionReply.{SessionReply}
use Rattle.records.specs.Records.{number, value_of}
use Rattle.records.specs.declared.Reply.{Reply}
use Rattle.numbers.specs.declared.NumberReply.{NumberReply}
use Rattle.numbers.specs.declared.SetUpReply.{SetUpReply}

-- a reply in numbers
abbrev pub numbers_of : SessionReply → NumberReply
numbers_of r = record { number = number r.answer; value = value_of r.answer; session = r.session }

-- a reply of set-up or of a load in numbers
abbrev pub set_up_numbers_of : Reply → SetUpReply
set_up_numbers_of r = record { number = number r.answer; value = value_of r.answer; sessions = r.sessions }

-- the number of a refusal, 0 of any other answer
abbrev pub refusal_of : Answer → ℕ
refusal_of Done = 0
refusal_of (Value v) = 0
refusal_of Sealed = 0
refusal_of Moved = 0
refusal_of (Waiting k) = 0
refusal_of Committed = 0
refusal_of (Refused k) = k

-- the answers that a begin, a read or a hold, and a seal give
abbrev pub of_begin : Answer → Bool
of_begin Done = true
of_begin (Value v) = false
of_begin Sealed = false
of_begin Moved = false
of_begin (Waiting k) = false
of_begin Committed = false
of_begin (Refused k) = true

abbrev pub of_read : Answer → Bool
of_read Done = false
of_read (Value v) = true
of_read Sealed = false
of_read Moved = false
of_read (Waiting k) = false
of_read Committed = false
of_read (Refused k) = true

abbrev pub of_seal : Answer → Bool
of_seal Done = false
of_seal (Value v) = false
of_seal Sealed = true
of_seal Moved = false
of_seal (Waiting k) = false
of_seal Committed = true
of_seal (Refused k) = true
