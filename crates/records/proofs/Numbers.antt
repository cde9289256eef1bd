-- An answer's number and value, a call's session, and a record in its phases, in numerals: what the methods' contracts and the model go by.
use mathlib.Core.Path.{◌≡◌, refl}
use Prim.Native.Nat.{ℕ}
use mathlib.Core.List.{List, [], ◌∷◌, map}
use Rattle.records.specs.declared.Session.{Session}
use Rattle.records.specs.declared.Call.TheVariants.{Begin, Read, Write, Seal, Advance, Abandon, Peek, Hold}
use Rattle.records.specs.declared.Answer.TheVariants.{Done, Value, Sealed, Moved, Waiting, Committed, Refused}
use Rattle.records.specs.declared.Refusal.TheVariants.{UnknownSession, WrongPhase, UnknownCell, AboveCap, FullLog, Conflict, WrongLengths, UnknownClass, DamagedRecord, ShortTarget, NotEntered, WrongList, WrongCaps, ValueAboveCaps}
use Rattle.records.specs.Records.{idle, running, with_entry, with_entries, move_to, number, value_of, session_of, refusal_number}

pub numbers_hold : map {B = ℕ} number (Done ∷ Value 7 ∷ Sealed ∷ Moved ∷ Waiting 3 ∷ Committed ∷ Refused 9 ∷ []) ≡ 100 ∷ 101 ∷ 102 ∷ 103 ∷ 104 ∷ 105 ∷ 9 ∷ []
numbers_hold = refl

pub refusals_hold : map {B = ℕ} refusal_number
    (UnknownSession ∷ WrongPhase ∷ UnknownCell ∷ AboveCap ∷ FullLog ∷ Conflict ∷ WrongLengths ∷ UnknownClass ∷ DamagedRecord ∷ ShortTarget ∷ NotEntered ∷ WrongList ∷ WrongCaps ∷ ValueAboveCaps ∷ [])
    ≡ 1 ∷ 2 ∷ 3 ∷ 4 ∷ 5 ∷ 6 ∷ 7 ∷ 8 ∷ 9 ∷ 13 ∷ 14 ∷ 15 ∷ 16 ∷ 17 ∷ []
refusals_hold = refl

pub values_hold : map {B = ℕ} value_of (Done ∷ Value 7 ∷ Sealed ∷ Moved ∷ Waiting 3 ∷ Committed ∷ Refused 9 ∷ []) ≡ 0 ∷ 7 ∷ 0 ∷ 0 ∷ 3 ∷ 0 ∷ 0 ∷ []
values_hold = refl

pub sessions_hold : map {B = ℕ} session_of (Begin 1 ∷ Read 2 9 ∷ Write 3 9 9 ∷ Seal 4 ∷ Advance 5 ∷ Abandon 6 ∷ Peek 7 9 ∷ Hold 8 9 ∷ []) ≡ 1 ∷ 2 ∷ 3 ∷ 4 ∷ 5 ∷ 6 ∷ 7 ∷ 8 ∷ []
sessions_hold = refl

-- phase, count, next
abbrev words : Session → List ℕ
words x = x.phase ∷ x.count ∷ x.next ∷ []

abbrev some_record : Session
some_record = record { phase = 3; count = 9; next = 5 }

pub records_hold : map {B = List ℕ} words (idle ∷ running ∷ with_entry some_record ∷ with_entries 4 some_record ∷ move_to 2 0 some_record ∷ [])
    ≡ (0 ∷ 0 ∷ 0 ∷ []) ∷ (1 ∷ 0 ∷ 0 ∷ []) ∷ (3 ∷ 10 ∷ 5 ∷ []) ∷ (3 ∷ 4 ∷ 5 ∷ []) ∷ (2 ∷ 9 ∷ 0 ∷ []) ∷ []
records_hold = refl
