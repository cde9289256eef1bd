-- What the code of a call sees of the run is its length and one lock. So what it ensures, it ensures of every run of that length with that lock.
use Rattle.std.specs.Prelude.{◌≡◌, ℕ, List, eqb, length}
use Rattle.std.specs.Borrow.{Bor}
use Rattle.model.specs.Buffers.{Limits, session_at, log_in, lengths_match}
use Rattle.model.specs.Load.{load_effect}
use Rattle.model.specs.Plans.{require}
use Rattle.model.specs.Slices.{Slice, caps_before, IsPart}
use Rattle.model.specs.Step.{outcome, effect, set_up_effect, session_of, peek_shows, GoesBy}
use Rattle.records.specs.declared.Sessions.{Sessions}
use Rattle.records.specs.declared.Lock.{Lock}
use Rattle.records.specs.declared.Reply.{Reply}
use Rattle.records.specs.declared.Answer.{Answer}
use Rattle.records.specs.declared.Call.{Call}
use Rattle.records.specs.declared.Call.TheVariants.{Write}
use Rattle.refusals.specs.Pieces.{admission}
use Rattle.any_call.specs.AnyCall.{cell_for}
use Rattle.refusals.specs.declared.Lengths.{Lengths}
use Rattle.run_turns.specs.declared.Turn.{Turn}
use Rattle.run_changes.specs.Run.{store_on, lock_in, swept_by, kept, ChangeFits}

-- the lengths of what is lent: n values, k classes, m locks, w words of logs
abbrev pub lengths_on : ℕ → ℕ → ℕ → ℕ → Lengths
lengths_on n k m w = record { values = n; classes = k; readers = m; claimants = m; exclusives = m; logs = w }

-- ---- the cell whose lock a call may need

-- of n values, k classes and m locks; 0 also where it is refused by 7 or 1
unfoldable pub look_of : Call → Sessions → ℕ → ℕ → ℕ → List ℕ → ℕ
look_of call ss n k m logs =
    require (eqb (admission (lengths_match n k m m m (length logs)) (session_of call)) 0) 0
    (cell_for call n (log_in logs (session_of call)) (session_at ss (session_of call)))

-- ---- what is done

-- an answer with the records and the run as they were
abbrev pub only_answer : Sessions → Answer → Turn
only_answer ss a = record { reply = record { answer = a; sessions = ss }; change = kept }

-- r is the reply of the call under the limits G, and a change that makes of every run of m locks, with lock l at cell c, what the model leaves
abbrev pub IsTurnUnder : Limits → Call → ℕ → List ℕ → List ℕ → ℕ → Lock → List ℕ → Sessions → List ℕ → List ℕ → Turn → Type 0
IsTurnUnder G call c values classes m l logs sessions values' logs' r =
    (ChangeFits logs' r.change)
    × ((L : List Lock) → length L ≡ m → lock_in L c ≡ l
    → outcome r.reply.answer (store_on G values' classes (swept_by logs' r.change L) logs' r.reply.sessions)
    ≡ effect call (store_on G values classes L logs sessions))

-- of a call that is handed no table, with the lock of the cell looked up: whatever the limits are, where it goes by them
abbrev pub IsTurn : Call → List ℕ → List ℕ → ℕ → Lock → List ℕ → Sessions → List ℕ → List ℕ → Turn → Type 0
IsTurn call values classes m l logs sessions values' logs' r =
    (G : Limits) → GoesBy call G
    → IsTurnUnder G call (look_of call sessions (length values) (length classes) m logs) values classes m l logs sessions values' logs' r

-- set-up, under the limits G
abbrev pub IsSetUpTurn : Limits → List ℕ → List ℕ → ℕ → List ℕ → Sessions → List ℕ → Turn → Type 0
IsSetUpTurn G values classes m logs sessions logs' r =
    (ChangeFits logs' r.change)
    × ((L : List Lock) → length L ≡ m
    → outcome r.reply.answer (store_on G values classes (swept_by logs' r.change L) logs' r.reply.sessions)
    ≡ set_up_effect (store_on G values classes L logs sessions))

-- r is the reply of a load of the table T, which leaves T' in the place of the one in force: m locks, w words of logs
abbrev pub IsLoad : List ℕ → List ℕ → List ℕ → List ℕ → List ℕ → ℕ → ℕ → Sessions → Reply → Type 0
IsLoad T caps T' values classes m w sessions r =
    (L : List Lock) (logs : List ℕ) → length L ≡ m → length logs ≡ w
    → outcome r.answer (store_on (record { caps = T' }) values classes L logs r.sessions)
    ≡ load_effect T (store_on (record { caps = caps }) values classes L logs sessions)

-- a peek's part, whatever the limits are
abbrev pub IsPeekPart : Bor (List ℕ) → ℕ → ℕ → Bor (List ℕ) → Sessions → ℕ → ℕ → Bor (List ℕ) → Type 0
IsPeekPart values k m logs sessions s c r =
    (G : Limits) (classes : List ℕ) (L : List Lock) → length classes ≡ k → length L ≡ m
    → IsPart values logs (peek_shows s c (store_on G values.now classes L logs.now sessions)) r

-- the same over whole parameters: of a call, of a write by a table, of set-up by a table, and of a table loaded
abbrev pub TakesOnRun : Call → Slice → Slice → ℕ → Lock → Slice → Sessions → Turn → Type 0
TakesOnRun k values classes m l logs sessions r =
    IsTurn k values.entry.now classes.entry.now m l logs.entry.now sessions values.exit.now logs.exit.now r

abbrev pub WritesOnRun : Slice → ℕ → ℕ → ℕ → Slice → Slice → ℕ → Lock → Slice → Sessions → Turn → Type 0
WritesOnRun caps s c v values classes m l logs sessions r =
    IsTurnUnder (caps_before caps) (Write s c v) c values.entry.now classes.entry.now m l logs.entry.now sessions values.exit.now logs.exit.now r

abbrev pub SetsUpTurnBy : Slice → Slice → Slice → ℕ → Slice → Sessions → Turn → Type 0
SetsUpTurnBy caps values classes m logs sessions r =
    IsSetUpTurn (caps_before caps) values.entry.now classes.entry.now m logs.entry.now sessions logs.exit.now r

abbrev pub LoadsOnRun : Slice → Slice → Slice → Slice → ℕ → ℕ → Sessions → Reply → Type 0
LoadsOnRun caps table values classes m w sessions r =
    IsLoad table.entry.now caps.entry.now caps.exit.now values.entry.now classes.entry.now m w sessions r
