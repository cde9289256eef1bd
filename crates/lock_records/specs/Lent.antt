-- What a call on the run is given and leaves, as the model's store: the contracts of the calls.
use Rattle.std.specs.Prelude.{◌≡◌, ℕ, List}
use Rattle.std.specs.Borrow.{Bor}
use denote.Triple.Both.{Both}
use Rattle.model.specs.Buffers.{Limits, ours, Store}
use Rattle.model.specs.Load.{load_effect}
use Rattle.model.specs.Step.{outcome, effect, set_up_effect, peek_shows, GoesBy}
use Rattle.records.specs.declared.Lock.{Lock}
use Rattle.records.specs.declared.Sessions.{Sessions}
use Rattle.records.specs.declared.Reply.{Reply}
use Rattle.records.specs.declared.Call.{Call}
use Rattle.model.specs.Slices.{Slice, caps_before, caps_after, IsPart}
use Rattle.run_changes.specs.Run.{store_on}

-- a lent run, as it is passed and as it is left
abbrev pub LockSlice : Type 0
LockSlice = Both (Bor (List Lock)) (Bor (List Lock))

-- the store that the slices and a run are before the call, and after it, with these records, under the limits G
abbrev pub before : Limits → Slice → Slice → List Lock → Slice → Sessions → Store
before G values classes L logs ss = store_on G values.entry.now classes.entry.now L logs.entry.now ss

abbrev pub afterwards : Limits → Slice → Slice → List Lock → Slice → Sessions → Store
afterwards G values classes L logs ss = store_on G values.exit.now classes.exit.now L logs.exit.now ss

-- the call k answers and leaves what the model says under the limits G, of a run L that it makes M
abbrev pub TakesRunUnder : Limits → Call → Slice → Slice → List Lock → List Lock → Slice → Sessions → Reply → Type 0
TakesRunUnder G k values classes L M logs ss r = outcome r.answer (afterwards G values classes M logs r.sessions) ≡ effect k (before G values classes L logs ss)

-- the same of a call that is handed no table, whatever the limits are, where it goes by them: of a run, and of a lent run
abbrev pub TakesRun : Call → Slice → Slice → List Lock → List Lock → Slice → Sessions → Reply → Type 0
TakesRun k values classes L M logs ss r = (G : Limits) → GoesBy k G → TakesRunUnder G k values classes L M logs ss r

abbrev pub Takes : Call → Slice → Slice → LockSlice → Slice → Sessions → Reply → Type 0
Takes k values classes locks logs ss r = TakesRun k values classes locks.entry.now locks.exit.now logs ss r

-- and of one that is handed a table
abbrev pub TakesBy : Slice → Call → Slice → Slice → LockSlice → Slice → Sessions → Reply → Type 0
TakesBy caps k values classes locks logs ss r = TakesRunUnder (caps_before caps) k values classes locks.entry.now locks.exit.now logs ss r

-- set-up, by our caps and by a table
abbrev pub SetsUpRunUnder : Limits → Slice → Slice → List Lock → List Lock → Slice → Sessions → Reply → Type 0
SetsUpRunUnder G values classes L M logs ss r = outcome r.answer (afterwards G values classes M logs r.sessions) ≡ set_up_effect (before G values classes L logs ss)

abbrev pub SetsUpRun : Slice → Slice → List Lock → List Lock → Slice → Sessions → Reply → Type 0
SetsUpRun values classes L M logs ss r = SetsUpRunUnder ours values classes L M logs ss r

abbrev pub SetsUp : Slice → Slice → LockSlice → Slice → Sessions → Reply → Type 0
SetsUp values classes locks logs ss r = SetsUpRun values classes locks.entry.now locks.exit.now logs ss r

abbrev pub SetsUpBy : Slice → Slice → Slice → LockSlice → Slice → Sessions → Reply → Type 0
SetsUpBy caps values classes locks logs ss r = SetsUpRunUnder (caps_before caps) values classes locks.entry.now locks.exit.now logs ss r

-- a table loaded in the place of the one in force
abbrev pub Loads : Slice → Slice → Slice → Slice → LockSlice → Slice → Sessions → Reply → Type 0
Loads caps table values classes locks logs ss r =
    outcome r.answer (afterwards (caps_after caps) values classes locks.exit.now logs r.sessions)
    ≡ load_effect table.entry.now (before (caps_before caps) values classes locks.entry.now logs ss)

-- a peek's part, whatever the limits are
abbrev pub HandsBack : ℕ → ℕ → Slice → Slice → List Lock → Slice → Sessions → Bor (List ℕ) → Type 0
HandsBack s c values classes L logs ss r = (G : Limits) → IsPart values.entry logs.entry (peek_shows s c (before G values classes L logs ss)) r
