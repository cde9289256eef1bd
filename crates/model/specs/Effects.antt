-- What a plan does (document 01, "The steps"): what it answers, what a peek is shown, and all that is left. What is tested here is only what
-- a change touches: whether a claim is the session's own, whether a cell publishes, whether one that does is left.
use Rattle.std.specs.Prelude.{ℕ, suc, ◌+◌, ◌*◌, Bool, true, cond, not, List, eqb, get_or, set}
use Rattle.model.specs.Search.{some?}
use Rattle.model.specs.Buffers.{Locks, Store, idle, running, session_at, with_session, with_entry, move_to, log_in, on_log, cell_at, publishes_in, target_in, appended, updated, marked, on_lock, sweep, join, leave, vacate, withdraw, claim, acquire}
use Rattle.records.specs.declared.Session.{Session}
pub use Rattle.records.specs.Records.{number, value_of}
use Rattle.records.specs.declared.Answer.{Answer}
use Rattle.records.specs.declared.Answer.TheVariants.{Done, Value, Sealed, Moved, Waiting, Committed, Refused}
use Rattle.records.specs.declared.Plan.{Plan}
use Rattle.records.specs.declared.Plan.TheVariants.{Refuse, Start, Tell, Enter, Update, EnterUpdate, Mark, EnterMark, RollBack, Cancel, CommitReads, BeginPromotion, Wait, Acquire, Publish, Release, ShowStore, ShowLog}

-- ---- what becomes of locks and records

-- rolling back: at each entry's cell the session leaves the readers, and gives up claim and mark where the claim is its own
unfoldable pub rolled_back : List ℕ → ℕ → ℕ → Locks → Locks
rolled_back log m s L = sweep (λ c. true) (withdraw s) (cell_at log) m L

-- sealing: the session leaves the readers of each cell entered that does not publish
unfoldable pub reads_dropped : List ℕ → ℕ → ℕ → Locks → Locks
reads_dropped log m s L = sweep (λ c. not (publishes_in log m c)) (leave s) (cell_at log) m L

-- a cell that publishes is left above cell c
unfoldable pub is_left : List ℕ → ℕ → Session → Bool
is_left log c x = some? (target_in log x.count (suc c))

-- handling cell c: next is one above it; where no cell that publishes is left there the phase rises and next is 0, and out of phase 4 the session is idle
unfoldable pub handled : List ℕ → ℕ → Session → Session
unfolding is_left
handled log c x = cond (is_left log c x) (move_to x.phase (suc c) x) (cond (eqb x.phase 4) idle (move_to (suc x.phase) 0 x))

-- the answer of phase 4: 103 while a cell that publishes is left, else 105; phases 2 and 3 answer 103
unfoldable pub release_answer : List ℕ → ℕ → Session → Answer
unfolding is_left
release_answer log c x = cond (is_left log c x) Moved Committed

-- the store with these locks, values, logs and record of session s; with these locks; with these logs (the forms that the laws in proofs/ go by)
abbrev pub change : Store → ℕ → Locks → List ℕ → List ℕ → Session → Store
change σ s L vs W x =
    record { lent = record { values = vs; classes = σ.lent.classes; locks = L; logs = W }; limits = σ.limits; sessions = with_session σ.sessions s x }

abbrev pub change_locks : Store → Locks → Store
change_locks σ L =
    record { lent = record { values = σ.lent.values; classes = σ.lent.classes; locks = L; logs = σ.lent.logs }; limits = σ.limits; sessions = σ.sessions }

abbrev pub change_logs : Store → List ℕ → Store
change_logs σ W =
    record { lent = record { values = σ.lent.values; classes = σ.lent.classes; locks = σ.lent.locks; logs = W }; limits = σ.limits; sessions = σ.sessions }

-- one of these changed: the locks, the values, the log of session s, the record of session s
abbrev pub on_locks : (Locks → Locks) → Store → Store
on_locks f σ = change_locks σ (f σ.lent.locks)

abbrev pub on_values : (List ℕ → List ℕ) → Store → Store
on_values f σ =
    record { lent = record { values = f σ.lent.values; classes = σ.lent.classes; locks = σ.lent.locks; logs = σ.lent.logs }; limits = σ.limits; sessions = σ.sessions }

abbrev pub on_log_of : ℕ → (List ℕ → List ℕ) → Store → Store
on_log_of s f σ = change_logs σ (on_log s f σ.lent.logs)

abbrev pub put_record : ℕ → Session → Store → Store
put_record s x σ = change σ s σ.lent.locks σ.lent.values σ.lent.logs x

-- the calling session's record, and its log
abbrev pub record_of : Store → ℕ → Session
record_of σ s = session_at σ.sessions s

abbrev pub log_of : Store → ℕ → List ℕ
log_of σ s = log_in σ.lent.logs s

-- the part that a peek hands back: the word at an index of the store's values, or of the logs, or no word where it is refused
pub data Part : Type 0 where
  store_word : ℕ → Part
  log_word : ℕ → Part
  no_word : Part

-- what a plan answers, what a peek is shown, and all that is left
pub record PlanEffect : Type 0 where
  pub answer : Answer
  pub shown : Part
  pub store : Store

abbrev pub does : Answer → Store → PlanEffect
does a σ = record { answer = a; shown = no_word; store = σ }

abbrev pub shows : Part → Store → PlanEffect
shows w σ = record { answer = Done; shown = w; store = σ }

-- session s enters cell c: it is among the cell's readers, and has an entry more, of the store's value
abbrev pub entered : ℕ → ℕ → Store → Store
entered s c σ =
    put_record s (with_entry (record_of σ s))
    (on_log_of s (λ log. appended log (record_of σ s).count c (get_or σ.lent.values c 0)) (on_locks (on_lock c (join s)) σ))

-- what a plan of session s does
unfoldable pub plan_effect : ℕ → Plan → Store → PlanEffect
-- turned down: all as before
plan_effect s (Refuse k) σ = does (Refused k) σ
-- begin: the session runs, with count 0 and next 0
plan_effect s Start σ = does Done (put_record s running σ)
-- read: of a cell in the log nothing changes; a new one is entered
plan_effect s (Tell v) σ = does (Value v) σ
plan_effect s (Enter c) σ = does (Value (get_or σ.lent.values c 0)) (entered s c σ)
-- write: the entry, which may be new, has the value and is written
plan_effect s (Update k v) σ = does Done (on_log_of s (λ log. updated log k v) σ)
plan_effect s (EnterUpdate c v) σ = does Done (on_log_of s (λ log. updated log (record_of σ s).count v) (entered s c σ))
-- hold: what read does, and the entry, which may be new, is held
plan_effect s (Mark k v) σ = does (Value v) (on_log_of s (λ log. marked log k) σ)
plan_effect s (EnterMark c) σ = does (Value (get_or σ.lent.values c 0)) (on_log_of s (λ log. marked log (record_of σ s).count) (entered s c σ))
-- rolled back, on a conflict or by abandon: at each entry's cell the session is gone, and it is idle; log words stay
plan_effect s RollBack σ = does (Refused 6) (put_record s idle (on_locks (rolled_back (log_of σ s) (record_of σ s).count s) σ))
plan_effect s Cancel σ = does Done (put_record s idle (on_locks (rolled_back (log_of σ s) (record_of σ s).count s) σ))
-- seal: the locks of what is merely read go; where nothing publishes the session is idle, else it is in phase 2 with next 0; the log stays
plan_effect s CommitReads σ = does Committed (put_record s idle (on_locks (reads_dropped (log_of σ s) (record_of σ s).count s) σ))
plan_effect s BeginPromotion σ =
    does Sealed (put_record s (move_to 2 0 (record_of σ s)) (on_locks (reads_dropped (log_of σ s) (record_of σ s).count s) σ))
-- advance, phase 2: where k others read, the session becomes claimant and waits, told how many; else claimant with mark 1, and the cell is handled
plan_effect s (Wait c k) σ = does (Waiting k) (on_locks (on_lock c (claim s)) σ)
plan_effect s (Acquire c) σ = does Moved (put_record s (handled (log_of σ s) c (record_of σ s)) (on_locks (on_lock c (acquire s)) σ))
-- advance, phase 3: the present value is put in the store; the cell is handled
plan_effect s (Publish c v) σ = does Moved (put_record s (handled (log_of σ s) c (record_of σ s)) (on_values (λ vs. set vs c v) σ))
-- advance, phase 4: the session leaves the readers, nobody is claimant, the mark is 0; the cell is handled
plan_effect s (Release c) σ =
    does (release_answer (log_of σ s) c (record_of σ s)) (put_record s (handled (log_of σ s) c (record_of σ s)) (on_locks (on_lock c (vacate s)) σ))
-- peek: the store's word, or the present value's word of entry k; nothing changes
plan_effect s (ShowStore c) σ = shows (store_word c) σ
plan_effect s (ShowLog k) σ = shows (log_word (128 * s + (4 * k + 2))) σ

unfoldable pub answer : ℕ → Plan → Store → Answer
unfolding plan_effect
answer s p σ = (plan_effect s p σ).answer

unfoldable pub shown : ℕ → Plan → Store → Part
unfolding plan_effect
shown s p σ = (plan_effect s p σ).shown

unfoldable pub after : ℕ → Plan → Store → Store
unfolding plan_effect
after s p σ = (plan_effect s p σ).store
