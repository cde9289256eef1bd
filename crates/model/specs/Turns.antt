-- A plan carried out in two parts: a turn, on the values, the session's own log and its record, and a change of the locks, which goes by how they are kept. What the
-- functions of the calls answer; proofs/Carried.antt has that both parts together are what the plan does (specs/Effects.antt).
use Rattle.std.specs.Prelude.{◌≡◌, ℕ, List, get_or, set}
use Rattle.model.specs.Slices.{Slice}
use Rattle.model.specs.Buffers.{Locks, Store, idle, running, with_entry, move_to, on_log, appended, updated, marked, on_lock, join, claim, acquire, vacate}
use Rattle.model.specs.Effects.{handled, release_answer, rolled_back, reads_dropped, change, record_of}
use Rattle.model.specs.Step.{Outcome, outcome}
use Rattle.records.specs.declared.Session.{Session}
use Rattle.records.specs.declared.Answer.{Answer}
use Rattle.records.specs.declared.Answer.TheVariants as say
use Rattle.records.specs.declared.Plan.{Plan}
use Rattle.records.specs.declared.Plan.TheVariants.{Refuse, Start, Tell, Enter, Update, EnterUpdate, Mark, EnterMark, RollBack, Cancel, CommitReads, BeginPromotion, Wait, Acquire, Publish, Release, ShowStore, ShowLog}
use Rattle.records.specs.declared.Change.{Change}
use Rattle.records.specs.declared.Change.TheVariants as to
use Rattle.records.specs.declared.Turn.{Turn}

-- what a turn answers, the values, the log and the record that it leaves, and the change of the locks
pub record TurnEffect : Type 0 where
  pub answer : Answer
  pub values : List ℕ
  pub log : List ℕ
  pub session : Session
  pub change : Change

abbrev pub leaves : Answer → List ℕ → List ℕ → Session → Change → TurnEffect
leaves a vs log x d = record { answer = a; values = vs; log = log; session = x; change = d }

-- the turn of a plan, of a session with this log and record
unfoldable pub turn_of : Plan → List ℕ → List ℕ → Session → TurnEffect
turn_of (Refuse k) vs log x = leaves (say.Refused k) vs log x to.Keep
turn_of Start vs log x = leaves say.Done vs log running to.Keep
turn_of (Tell v) vs log x = leaves (say.Value v) vs log x to.Keep
turn_of (Enter c) vs log x = leaves (say.Value (get_or vs c 0)) vs (appended log x.count c (get_or vs c 0)) (with_entry x) (to.Join c)
turn_of (Update k v) vs log x = leaves say.Done vs (updated log k v) x to.Keep
turn_of (EnterUpdate c v) vs log x =
    leaves say.Done vs (updated (appended log x.count c (get_or vs c 0)) x.count v) (with_entry x) (to.Join c)
turn_of (Mark k v) vs log x = leaves (say.Value v) vs (marked log k) x to.Keep
turn_of (EnterMark c) vs log x =
    leaves (say.Value (get_or vs c 0)) vs (marked (appended log x.count c (get_or vs c 0)) x.count) (with_entry x) (to.Join c)
turn_of RollBack vs log x = leaves (say.Refused 6) vs log idle to.Withdraw
turn_of Cancel vs log x = leaves say.Done vs log idle to.Withdraw
turn_of CommitReads vs log x = leaves say.Committed vs log idle to.DropReads
turn_of BeginPromotion vs log x = leaves say.Sealed vs log (move_to 2 0 x) to.DropReads
turn_of (Wait c k) vs log x = leaves (say.Waiting k) vs log x (to.Claim c)
turn_of (Acquire c) vs log x = leaves say.Moved vs log (handled log c x) (to.Acquire c)
turn_of (Publish c v) vs log x = leaves say.Moved (set vs c v) log (handled log c x) to.Keep
turn_of (Release c) vs log x = leaves (release_answer log c x) vs log (handled log c x) (to.Vacate c)
turn_of (ShowStore c) vs log x = leaves say.Done vs log x to.Keep
turn_of (ShowLog k) vs log x = leaves say.Done vs log x to.Keep

-- the locks changed, by session s with m entries in its log
unfoldable pub changed : Change → List ℕ → ℕ → ℕ → Locks → Locks
changed to.Keep log m s L = L
changed (to.Join c) log m s L = on_lock c (join s) L
changed (to.Claim c) log m s L = on_lock c (claim s) L
changed (to.Acquire c) log m s L = on_lock c (acquire s) L
changed (to.Vacate c) log m s L = on_lock c (vacate s) L
changed to.Withdraw log m s L = rolled_back log m s L
changed to.DropReads log m s L = reads_dropped log m s L

-- the store with a turn of session s in it, and the locks changed
unfoldable pub carried : ℕ → TurnEffect → Store → Outcome
carried s t σ =
    outcome t.answer
    (change σ s (changed t.change t.log (record_of σ s).count s σ.lent.locks) t.values (on_log s (λ log. t.log) σ.lent.logs) t.session)

-- what a function left of lent values and a lent log, with what it answered, is the turn of the plan p
abbrev pub TakesTurn : Plan → Slice → Slice → Session → Turn → Type 0
TakesTurn p values log x r =
    leaves r.answer values.exit.now log.exit.now r.session r.change ≡ turn_of p values.entry.now log.entry.now x

-- the same of a function that is handed the log to read, and no values: whatever the values are
abbrev pub TurnsLog : Plan → Slice → Session → Turn → Type 0
TurnsLog p log x r =
    (vs : List ℕ) → leaves r.answer vs log.exit.now r.session r.change ≡ turn_of p vs log.entry.now x
