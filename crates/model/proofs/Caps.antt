-- No value in the store and none that a call answers is ever above its cell's cap: `WithinCaps` of specs/Caps.antt. The invariant is that
-- the store's values and the current values of all entries in use are within the caps: a write is tested against the cap of its cell, and
-- whatever else comes into a log, the store or an answer comes out of one of the two.
use Prim.Native.Nat.{ℕ, zero, suc, ◌+◌, ◌*◌, ◌≤◌, ◌<◌}
use native.Mathlib.Omega.{arith}
use mathlib.Core.Path.{◌≡◌, refl, sym, ◌∙◌, ap, subst}
use mathlib.Core.Bool.{Bool, true, false, cond, not, ◌&&◌, ◌||◌}
use mathlib.Core.List.{List, [], ◌∷◌, ◌++◌, append-nil, reverse}
use lib.Dec.{leb, ltb, eqb}
use lib.ListN.{length, get_or, set, length-set, length-replicate, get_or-eq_default}
use lib.Seq.{sets, length-sets}
use borrow.Author.Tests.{eqb-true, leb-true, ltb-true, ltb-false}
use Rattle.records.specs.declared.Session.{Session}
use Rattle.records.specs.declared.Sessions.{Sessions}
use Rattle.records.specs.declared.Call.{Call}
use Rattle.records.specs.declared.Call.TheVariants.{Begin, Read, Write, Seal, Advance, Abandon, Peek, Hold}
use Rattle.records.specs.declared.Answer.{Answer}
use Rattle.records.specs.declared.Answer.TheVariants.{Moved, Committed, Refused}
use Rattle.records.specs.declared.Plan.{Plan}
use Rattle.records.specs.declared.Plan.TheVariants.{Refuse, Start, Tell, Enter, Update, EnterUpdate, Mark, EnterMark, RollBack, Cancel, CommitReads, BeginPromotion, Wait, Acquire, Publish, Release, ShowStore, ShowLog}
use Rattle.model.specs.Buffers.{Locks, Buffers, Limits, Store, idle, running, session_at, with_session, with_entry, move_to, word, cell_at, entry_at, slot_in, entry_of, look_in, target_in, current_of, appended, with_dirty, with_held, updated, marked, lock_at, on_lock, join, cap, has_caps, fits, all_fit, lengths_fit, fresh, log_in, on_log, size}
use Rattle.model.specs.Caps.{cap_of, EachGotWithin, InUse, EntryWithin, Passing, WithinCaps}
use Rattle.model.specs.History.{Action, one_call, many_reads, load_caps, tells_of, leaves, event_of, run}
use Rattle.model.specs.Isolation.{All}
use Rattle.model.specs.Load.{idle_below, all_idle, with_caps}
use Rattle.model.specs.Readers.{other_readers}
use Rattle.model.specs.Search.{some?, find}
use Rattle.model.specs.Plans.{guard, known, claimed, read_slot, hold_slot, write_slot, write_capped, seal_target, promote_plan, advance_target, plan, admit}
use Rattle.model.specs.Effects.{number, is_left, handled, change, change_logs, record_of, after, release_answer, answer, log_of}
use Rattle.model.specs.Step.{Outcome, outcome, session_of, plan_of, step, answer_of, set_up_answer, set_up, set_up_effect}
use Rattle.model.specs.Told.{Told, began, got, put, held, sealed, moved, ended, ending, found_by, tells, WhereGot}
use Rattle.model.proofs.Demand3.{Passed, set_up_passed, set_up_fresh}
use Rattle.model.proofs.Laws.{find_some, get_or-sets_other, log_length, log_same, log_other, length-on, grown_word, grown_apart, appended_cell, marked_words}
use Rattle.model.proofs.Invariant.{all_append}
use Rattle.model.proofs.ManyReads.{kept_by_reads}
use Rattle.model.proofs.Passing.{choose, guarded, cell_known, cell_new}
use Rattle.model.proofs.Quiet.{Quiet, peeks}
use Rattle.model.proofs.Loading.{Loaded, load_cases}
use Rattle.model.proofs.Runs.{first}
use Rattle.model.proofs.Telling.{tells_any}
use Rattle.model.proofs.Tools.{same, split, test, which, clash, both_l, both_r, and-false}

-- ---- the invariant

pub record Capped (σ : Store) : Type 0 where
  pub records : length σ.sessions.records ≡ 16
  pub stored : (c : ℕ) → get_or σ.lent.values c 0 ≤ cap_of σ c
  pub logged : (s k : ℕ) → InUse (record_of σ s) k → EntryWithin (cap_of σ) (log_of σ s) k

-- ---- lists and logs

-- element j after element i is made a: what holds of it before, and of a where j is i
set_either {ℓ κ} : {A : Type ℓ} (P : A → Type κ) (l : List A) (i j : ℕ) (a d : A) → (j ≡ i → P a) → P (get_or l j d) → P (get_or (set l i a) j d)
set_either P [] i j a d f h = h
set_either P (x ∷ l) zero zero a d f h = f refl
set_either P (x ∷ l) zero (suc j) a d f h = h
set_either P (x ∷ l) (suc i) zero a d f h = h
set_either P (x ∷ l) (suc i) (suc j) a d f h = set_either P l i j a d (λ e. f (ap suc e)) h

module _ (bound : ℕ → ℕ) (log : List ℕ) (k : ℕ) where
  appended_within : (c v : ℕ) → k < 32 → length log ≡ 128 → v ≤ bound c → (j : ℕ) → ((j ≡ k → ⊥) → EntryWithin bound log j) → EntryWithin bound (appended log k c v) j
  unfolding cell_at entry_at appended
  appended_within c v lk len h j f =
      same j k
      (λ e. rw e (rw (grown_word log k c v lk len 2 (omega arith), grown_word log k c v lk len 0 (omega arith)) h))
      (λ n. rw (grown_apart log k c v lk len j 2 n (omega arith), grown_apart log k c v lk len j 0 n (omega arith)) (f n))

  -- an entry's last two words set
  set_within : (v w : ℕ) → v ≤ bound (cell_at log k) → (j : ℕ) → EntryWithin bound log j → EntryWithin bound (sets log (4 * k + 2) (v ∷ w ∷ [])) j
  unfolding cell_at entry_at word
  set_within v w h j old =
      let q : get_or (sets log (4 * k + 2) (v ∷ w ∷ [])) (4 * j + 0) 0 ≡ get_or log (4 * j + 0) 0 =
      get_or-sets_other (v ∷ w ∷ []) log (4 * k + 2) (4 * j + 0) (λ m p e. omega arith) in
      rw q
      (set_either (λ x. x ≤ bound (word log j 0)) (set log (4 * k + 2) v) (suc (4 * k + 2)) (4 * j + 2) w 0
      (λ e. absurd (omega arith))
      (set_either (λ x. x ≤ bound (word log j 0)) log (4 * k + 2) (4 * j + 2) v 0
      (λ e. let w : j ≡ k = omega arith in rw w h) old))

-- the entries where session s's part is changed by f: those of the changed part, and the other sessions' as before
on_within : (bound : ℕ → ℕ) (s : ℕ) (logs : List ℕ) → s < 16 → length logs ≡ 2048 → (f : List ℕ → List ℕ) → length (f (log_in logs s)) ≡ 128 → (t j : ℕ)
    → (t ≡ s → EntryWithin bound (f (log_in logs s)) j) → ((t ≡ s → ⊥) → EntryWithin bound (log_in logs t) j) → EntryWithin bound (log_in (on_log s f logs) t) j
on_within bound s logs lt len f w t j new old =
    same t s (λ e. rw e (rw (log_same s logs lt len f w) (new e))) (λ n. rw (log_other s logs lt len f w t n) (old n))

module _ (s : ℕ) (logs : List ℕ) (k c v : ℕ) (lt : s < 16) (len : length logs ≡ 2048) where
  grown_whole : length (appended (log_in logs s) k c v) ≡ 128
  unfolding appended
  grown_whole = length-sets (log_in logs s) (4 * k) (c ∷ v ∷ v ∷ 0 ∷ []) ∙ log_length logs s lt len

  entered_length : length (on_log s (λ log. appended log k c v) logs) ≡ 2048
  entered_length = length-on s logs lt len (λ log. appended log k c v) grown_whole ∙ len

  entered_cell : k < 32 → cell_at (log_in (on_log s (λ log. appended log k c v) logs) s) k ≡ c
  entered_cell lk =
      rw (log_same s logs lt len (λ log. appended log k c v) grown_whole) (appended_cell (log_in logs s) k c v lk (log_length logs s lt len))

  entered_within : (bound : ℕ → ℕ) → k < 32 → v ≤ bound c → EntryWithin bound (log_in (on_log s (λ log. appended log k c v) logs) s) k
  entered_within bound lk h =
      rw (log_same s logs lt len (λ log. appended log k c v) grown_whole)
      (appended_within bound (log_in logs s) k c v lk (log_length logs s lt len) h k (λ n. absurd (n refl)))

-- ---- what a plan leaves

-- session s acts: the values, the entries in use before, and those of its new record are within the caps
change_keeps : (σ : Store) (s : ℕ) (L : Locks) (vs W : List ℕ) (x : Session) → length σ.sessions.records ≡ 16 → ((c : ℕ) → get_or vs c 0 ≤ cap_of σ c)
    → ((t k : ℕ) → InUse (record_of σ t) k → EntryWithin (cap_of σ) (log_in W t) k) → ((k : ℕ) → InUse x k → EntryWithin (cap_of σ) (log_in W s) k)
    → Capped (change σ s L vs W x)
unfolding session_at with_session
change_keeps σ s L vs W x n h old new =
    record {
      records = length-set σ.sessions.records s x ∙ n;
      stored = h;
      logged = λ t k. set_either (λ (y : Session). InUse y k → EntryWithin (cap_of σ) (log_in W t) k) σ.sessions.records s t x idle (λ e. rw e (new k)) (old t k);
    }

-- an entry's last two words set: a value written into it, or a mark
module _ {σ : Store} (I : Capped σ) (s k : ℕ) (lt : s < 16) (len : length σ.lent.logs ≡ 2048) where
  set_keeps : (v w : ℕ) (g : List ℕ → List ℕ) → g (log_of σ s) ≡ sets (log_of σ s) (4 * k + 2) (v ∷ w ∷ []) → v ≤ cap_of σ (cell_at (log_of σ s) k)
      → Capped (change_logs σ (on_log s g σ.lent.logs))
  set_keeps v w g is h =
      record {
        records = I.records;
        stored = I.stored;
        logged = λ t j u. on_within (cap_of σ) s σ.lent.logs lt len g (ap length is ∙ length-sets (log_of σ s) (4 * k + 2) (v ∷ w ∷ []) ∙ log_length σ.lent.logs s lt len) t j
            (λ e. rw is (set_within (cap_of σ) (log_of σ s) k v w h j (subst (λ (i : ℕ). EntryWithin (cap_of σ) (log_of σ i) j) e (I.logged t j u)))) (λ _. I.logged t j u);
      }

  update_keeps : (v : ℕ) → v ≤ cap_of σ (cell_at (log_of σ s) k) → Capped (change_logs σ (on_log s (λ log. updated log k v) σ.lent.logs))
  update_keeps v h = set_keeps v (with_dirty (word (log_of σ s) k 3)) (λ log. updated log k v) (unfold updated in refl) h

  mark_keeps : (entry_at (log_of σ s) k).current ≤ cap_of σ (cell_at (log_of σ s) k) → Capped (change_logs σ (on_log s (λ log. marked log k) σ.lent.logs))
  unfolding entry_at
  mark_keeps h = set_keeps (word (log_of σ s) k 2) (with_held (word (log_of σ s) k 3)) (λ log. marked log k) (marked_words (log_of σ s) k) h

handled_in_use : (log : List ℕ) (c : ℕ) (x : Session) → (x.phase ≡ 0 → ⊥) → (k : ℕ) → InUse (handled log c x) k → InUse x k
unfolding handled
handled_in_use log c x n k =
    split (λ (y : Session). InUse y k → InUse x k) (some? (target_in log x.count (suc c))) (λ _ u. (n, u.1))
    (λ _. split (λ (y : Session). InUse y k → InUse x k) (eqb x.phase 4) (λ _ u. absurd (u.0 refl)) (λ _ u. (n, u.1)))

module _ {σ : Store} (I : Capped σ) (s : ℕ) where
  -- values and logs stay, and no more entries are in use
  shrink_keeps : (L : Locks) (x : Session) → ((k : ℕ) → InUse x k → InUse (record_of σ s) k) → Capped (change σ s L σ.lent.values σ.lent.logs x)
  shrink_keeps L x f = change_keeps σ s L σ.lent.values σ.lent.logs x I.records I.stored I.logged (λ k u. I.logged s k (f k u))

  idle_keeps : (L : Locks) → Capped (change σ s L σ.lent.values σ.lent.logs idle)
  idle_keeps L = shrink_keeps L idle (λ k u. absurd (u.0 refl))

  module _ (n : (record_of σ s).phase ≡ 0 → ⊥) where
    -- what the log has for a cell
    current_within : (c : ℕ) → current_of (look_in (log_of σ s) (record_of σ s).count c) ≤ cap_of σ c
    unfolding look_in slot_in entry_of
    current_within c =
        which (find (cell_at (log_of σ s)) (record_of σ s).count c) (λ p. rw p (omega arith))
        (λ k p. let f = find_some (cell_at (log_of σ s)) c (record_of σ s).count p in rw p (rw f.1 at (I.logged s k (n, f.0))))

    enter_keeps : length σ.lent.logs ≡ 2048 → s < 16 → (record_of σ s).count < 32 → (c : ℕ) → Capped (after s (Enter c) σ)
    unfolding after
    enter_keeps len lt room c =
        let v = get_or σ.lent.values c 0 in
        let m = (record_of σ s).count in
        let w = appended_within (cap_of σ) (log_of σ s) m c v room (log_length σ.lent.logs s lt len) (I.stored c) in
        let g = on_within (cap_of σ) s σ.lent.logs lt len (λ log. appended log m c v) (grown_whole s σ.lent.logs m c v lt len) in
        change_keeps σ s (on_lock c (join s) σ.lent.locks) σ.lent.values (on_log s (λ log. appended log m c v) σ.lent.logs) (with_entry (record_of σ s)) I.records I.stored
        (λ t j u. g t j (λ e. w j (λ _. subst (λ (i : ℕ). EntryWithin (cap_of σ) (log_of σ i) j) e (I.logged t j u))) (λ _. I.logged t j u))
        (λ j u. g s j (λ _. w j (λ ne. I.logged s j (n, omega (arith, u.1)))) (λ ne. absurd (ne refl)))

    publish_keeps : (c v : ℕ) → v ≤ cap_of σ c → Capped (after s (Publish c v) σ)
    unfolding after
    publish_keeps c v h =
        change_keeps σ s σ.lent.locks (set σ.lent.values c v) σ.lent.logs (handled (log_of σ s) c (record_of σ s)) I.records
        (λ d. set_either (λ x. x ≤ cap_of σ d) σ.lent.values c d v 0 (λ e. rw e h) (I.stored d)) I.logged
        (λ k u. I.logged s k (handled_in_use (log_of σ s) c (record_of σ s) n k u))

-- ---- the calls

pub logs_long : (B : Buffers) → lengths_fit B ≡ true → length B.logs ≡ 2048
unfolding lengths_fit
logs_long B h =
    test (eqb (length B.logs) 2048) (eqb-true (length B.logs) 2048) (λ q. absurd (clash (lengths_fit B) h (rw (q, and-false))))

-- what `guarded` tells of a call that is not turned down, and the logs' length
fitting {ℓ} : (P : Plan → Type ℓ) (B : Buffers) (s : ℕ) (x : Session) (fit : Bool) (p : Plan) → ((k : ℕ) → P (Refuse k))
    → (length B.logs ≡ 2048 → s < 16 → fit ≡ true → P p) → P (admit B s (guard (size B) (log_in B.logs s) x fit p))
unfolding guard
fitting P B s x fit p r f =
    test (lengths_fit B)
    (λ h. guarded P B s x fit p (r 7) (r 1) (r 9) (r 2) (λ lt _ q. f (logs_long B h) lt q))
    (λ h. rw h (r 7))

-- a value told is within the bound of its cell
abbrev TellsWithin : (ℕ → ℕ) → List Told → Type 0
TellsWithin bound ws = All (WhereGot (λ c v. v ≤ bound c)) ws

-- a refusal's value, 0, is
refused_within : (bound : ℕ → ℕ) (r : ℕ) (k : Call) (f : ℕ) → TellsWithin bound (tells k (Refused r) f)
unfolding ending
refused_within bound r k f =
    tells_any (TellsWithin bound) (Refused r) (split (TellsWithin bound) (eqb r 6 || eqb r 105) (λ _. (tt, tt)) (λ _. tt)) (λ w _ g. (none_above w g, tt)) (λ _. (tt, (tt, tt))) k f
  where
    none_above : (w : Told) → WhereGot (λ c v. v ≡ 0) w → WhereGot (λ c v. v ≤ bound c) w
    none_above began g = tt
    none_above (got c v) g = omega arith
    none_above (put c v f) g = tt
    none_above (held c v f) g = omega arith
    none_above sealed g = tt
    none_above moved g = tt
    none_above ended g = tt

module _ {σ : Store} (I : Capped σ) where
  -- what a plan leaves and what it answers are within the caps
  abbrev CapsKept : Call → Plan → Type 0
  CapsKept k p = Capped (after (session_of k) p σ) × TellsWithin (cap_of σ) (tells k (answer (session_of k) p σ) (found_by k (after (session_of k) p σ)))

  keep_refusal : (k : Call) (m : ℕ) → CapsKept k (Refuse m)
  unfolding after answer
  keep_refusal k m = (I, refused_within (cap_of σ) m k _)

  keep_rollback : (k : Call) → CapsKept k RollBack
  unfolding after answer
  keep_rollback k = (idle_keeps I (session_of k) _, refused_within (cap_of σ) 6 k _)

  keep_quiet : (k : Call) (p : Plan) → Quiet k σ p → CapsKept k p
  keep_quiet k p q = rw (q.told _, q.left) (I, tt)

  -- a call of a running session on a cell
  on_cell : (k : Call) (c : ℕ) (p : Plan) → let s = session_of k in
      (length σ.lent.logs ≡ 2048 → s < 16 → ((record_of σ s).phase ≡ 0 → ⊥) → CapsKept k p)
      → CapsKept k (admit σ.lent s (guard (size σ.lent) (log_of σ s) (record_of σ s) (eqb (record_of σ s).phase 1) (known (size σ.lent) c p)))
  on_cell k c p f =
      let s = session_of k in
      fitting (CapsKept k) σ.lent s (record_of σ s) (eqb (record_of σ s).phase 1) (known (size σ.lent) c p) (keep_refusal k)
      (λ len lt h. cell_known (CapsKept k) (size σ.lent) c p (keep_refusal k 3) (λ _. f len lt (λ e. let w = eqb-true (record_of σ s).phase 1 h in omega arith)))

  keep_read : (s c : ℕ) → CapsKept (Read s c) (plan_of (Read s c) σ)
  unfolding plan_of plan read_slot after answer look_in entry_of tells ending
  keep_read s c =
      on_cell (Read s c) c (read_slot (log_of σ s) (record_of σ s) (lock_at σ.lent.locks c) c (slot_in (log_of σ s) (record_of σ s).count c))
      (λ len lt n.
      choose (CapsKept (Read s c)) (read_slot (log_of σ s) (record_of σ s) (lock_at σ.lent.locks c) c) (slot_in (log_of σ s) (record_of σ s).count c)
      (λ _. cell_new (CapsKept (Read s c)) (record_of σ s) (lock_at σ.lent.locks c) (Enter c) (keep_refusal (Read s c) 5) (λ _. keep_rollback (Read s c))
      (λ room _. (enter_keeps I s n len lt room c, (I.stored c, tt))))
      (λ j p. (I, (rw p at (current_within I s n c), tt))))

  keep_write : (s c v : ℕ) → CapsKept (Write s c v) (plan_of (Write s c v) σ)
  unfolding plan_of plan write_capped write_slot after answer slot_in tells ending
  keep_write s c v =
      let k = get_or σ.lent.classes c 0 in
      let call = Write s c v in
      let m = (record_of σ s).count in
      split (CapsKept call) (has_caps σ.limits.caps)
      (λ _. on_cell call c (cond (ltb k 16) (write_capped (log_of σ s) (record_of σ s) (lock_at σ.lent.locks c) c v (cap σ.limits.caps k)) (Refuse 8))
      (λ len lt n.
      split (CapsKept call) (ltb k 16)
      (λ _. split (CapsKept call) (leb v (cap σ.limits.caps k))
      (λ h.
      let le : v ≤ cap_of σ c = leb-true v (cap σ.limits.caps k) h in
      choose (CapsKept call) (write_slot (record_of σ s) (lock_at σ.lent.locks c) c v) (slot_in (log_of σ s) m c)
      (λ _. cell_new (CapsKept call) (record_of σ s) (lock_at σ.lent.locks c) (EnterUpdate c v) (keep_refusal call 5) (λ _. keep_rollback call)
      (λ room _.
      let u = get_or σ.lent.values c 0 in
      (update_keeps (enter_keeps I s n len lt room c) s m lt (entered_length s σ.lent.logs m c u lt len) v (rw (entered_cell s σ.lent.logs m c u lt len room) le), (tt, tt))))
      (λ j p. (update_keeps I s j lt len v (rw (find_some (cell_at (log_of σ s)) c m p).1 le), (tt, tt))))
      (λ _. keep_refusal call 4))
      (λ _. keep_refusal call 8)))
      (λ _. keep_refusal call 7)

  keep_hold : (s c : ℕ) → CapsKept (Hold s c) (plan_of (Hold s c) σ)
  unfolding plan_of plan hold_slot after answer look_in slot_in entry_of tells ending
  keep_hold s c =
      let m = (record_of σ s).count in
      on_cell (Hold s c) c (hold_slot (log_of σ s) (record_of σ s) (lock_at σ.lent.locks c) c (slot_in (log_of σ s) m c))
      (λ len lt n.
      choose (CapsKept (Hold s c)) (hold_slot (log_of σ s) (record_of σ s) (lock_at σ.lent.locks c) c) (slot_in (log_of σ s) m c)
      (λ _. cell_new (CapsKept (Hold s c)) (record_of σ s) (lock_at σ.lent.locks c) (EnterMark c) (keep_refusal (Hold s c) 5) (λ _. keep_rollback (Hold s c))
      (λ room _.
      let u = get_or σ.lent.values c 0 in
      let w = entered_within s σ.lent.logs m c u lt len (cap_of σ) room (I.stored c) in
      (mark_keeps (enter_keeps I s n len lt room c) s m lt (entered_length s σ.lent.logs m c u lt len) w, (I.stored c, tt))))
      (λ j p.
      let w = I.logged s j (n, (find_some (cell_at (log_of σ s)) c m p).0) in
      (mark_keeps I s j lt len w, (rw (find_some (cell_at (log_of σ s)) c m p).1 at w, tt))))

  keep_begin : (s : ℕ) → CapsKept (Begin s) (plan_of (Begin s) σ)
  unfolding plan_of plan after answer tells ending
  keep_begin s =
      fitting (CapsKept (Begin s)) σ.lent s (record_of σ s) (eqb (record_of σ s).phase 0) Start (keep_refusal (Begin s))
      (λ _ _ _. (shrink_keeps I s σ.lent.locks running (λ k u. absurd (omega (arith, u.1))), (tt, tt)))

  keep_abandon : (s : ℕ) → CapsKept (Abandon s) (plan_of (Abandon s) σ)
  unfolding plan_of plan after answer tells ending
  keep_abandon s =
      fitting (CapsKept (Abandon s)) σ.lent s (record_of σ s) (eqb (record_of σ s).phase 1 || eqb (record_of σ s).phase 2) Cancel (keep_refusal (Abandon s))
      (λ _ _ _. (idle_keeps I s _, (tt, tt)))

  keep_seal : (s : ℕ) → CapsKept (Seal s) (plan_of (Seal s) σ)
  unfolding plan_of plan seal_target after answer tells ending
  keep_seal s =
      let x = record_of σ s in
      fitting (CapsKept (Seal s)) σ.lent s x (eqb x.phase 1) (seal_target (target_in (log_of σ s) x.count 0)) (keep_refusal (Seal s))
      (λ _ _ h.
      choose (CapsKept (Seal s)) seal_target (target_in (log_of σ s) x.count 0) (λ _. (idle_keeps I s _, (tt, (tt, tt))))
      (λ c _. (shrink_keeps I s _ (move_to 2 0 x) (λ k u. (λ e. let w = eqb-true x.phase 1 h in omega arith, u.1)), (tt, tt))))

  keep_advance : (s : ℕ) → CapsKept (Advance s) (plan_of (Advance s) σ)
  unfolding plan_of plan advance_target promote_plan after answer release_answer tells ending
  keep_advance s =
      let x = record_of σ s in
      let call = Advance s in
      fitting (CapsKept call) σ.lent s x (leb 2 x.phase) (advance_target s (log_of σ s) x (lock_at σ.lent.locks) (target_in (log_of σ s) x.count x.next)) (keep_refusal call)
      (λ _ _ h.
      let n : x.phase ≡ 0 → ⊥ = λ e. let w = leb-true 2 x.phase h in omega arith in
      choose (CapsKept call) (advance_target s (log_of σ s) x (lock_at σ.lent.locks)) (target_in (log_of σ s) x.count x.next) (λ _. keep_refusal call 9)
      (λ c _.
      let handle-keeps : (L : Locks) → Capped (change σ s L σ.lent.values σ.lent.logs (handled (log_of σ s) c x)) =
      λ L. shrink_keeps I s L (handled (log_of σ s) c x) (handled_in_use (log_of σ s) c x n) in
      split (CapsKept call) (eqb x.phase 2)
      (λ _.
      let l = lock_at σ.lent.locks c in
      split (CapsKept call) (claimed l && not (eqb l.claimant s)) (λ _. keep_rollback call)
      (λ _. split (CapsKept call) (eqb (other_readers s l.readers) 0) {x = Acquire c} {y = Wait c _} (λ _. (handle-keeps _, (tt, tt)))
      (λ _. (record { records = I.records; stored = I.stored; logged = I.logged }, tt))))
      (λ _. split (CapsKept call) (eqb x.phase 3) {x = Publish c (current_of (look_in (log_of σ s) x.count c))} {y = Release c} (λ _. (publish_keeps I s n c _ (current_within I s n c), (tt, tt)))
      (λ _. (handle-keeps _, split (λ (a : Answer). TellsWithin (cap_of σ) (tells (Advance s) a 0)) (is_left (log_of σ s) c x) {x = Moved} {y = Committed} (λ _. (tt, tt)) (λ _. (tt, tt)))))))

  keep : (k : Call) → CapsKept k (plan_of k σ)
  unfolding plan_of
  keep (Begin s) = keep_begin s
  keep (Read s c) = keep_read s c
  keep (Write s c v) = keep_write s c v
  keep (Seal s) = keep_seal s
  keep (Advance s) = keep_advance s
  keep (Abandon s) = keep_abandon s
  keep (Peek s c) = keep_quiet (Peek s c) _ (peeks σ s c)
  keep (Hold s c) = keep_hold s c

  pub keeps_capped : (k : Call) → Capped (step k σ)
  unfolding step
  keeps_capped k = (keep k).0

  pub tells_within : (k : Call) → TellsWithin (cap_of σ) (tells k (answer_of k σ) (found_by k (step k σ)))
  unfolding answer_of step
  tells_within k = (keep k).1

-- ---- no call changes the limits, or a class: no cap

kept_after : (s : ℕ) (p : Plan) (σ : Store) → ((after s p σ).limits ≡ σ.limits) × ((after s p σ).lent.classes ≡ σ.lent.classes)
unfolding after
kept_after s (Refuse k) σ = (refl, refl)
kept_after s Start σ = (refl, refl)
kept_after s (Tell v) σ = (refl, refl)
kept_after s (Enter c) σ = (refl, refl)
kept_after s (Update k v) σ = (refl, refl)
kept_after s (EnterUpdate c v) σ = (refl, refl)
kept_after s (Mark k v) σ = (refl, refl)
kept_after s (EnterMark c) σ = (refl, refl)
kept_after s RollBack σ = (refl, refl)
kept_after s Cancel σ = (refl, refl)
kept_after s CommitReads σ = (refl, refl)
kept_after s BeginPromotion σ = (refl, refl)
kept_after s (Wait c k) σ = (refl, refl)
kept_after s (Acquire c) σ = (refl, refl)
kept_after s (Publish c v) σ = (refl, refl)
kept_after s (Release c) σ = (refl, refl)
kept_after s (ShowStore c) σ = (refl, refl)
kept_after s (ShowLog k) σ = (refl, refl)

pub limits_step : (k : Call) (σ : Store) → (step k σ).limits ≡ σ.limits
unfolding step
limits_step k σ = (kept_after (session_of k) (plan_of k σ) σ).0

caps_step : (k : Call) (σ : Store) → cap_of (step k σ) ≡ cap_of σ
unfolding step
caps_step k σ =
    let e = kept_after (session_of k) (plan_of k σ) σ in
    ap {B = ℕ → ℕ} (λ (G : Limits) (c : ℕ). cap G.caps (get_or (step k σ).lent.classes c 0)) e.0 ∙ ap {B = ℕ → ℕ} (λ (ks : List ℕ) (c : ℕ). cap σ.limits.caps (get_or ks c 0)) e.1

-- ---- what set-up and a load tested

all_fit_lem : (T vs ks : List ℕ) → all_fit T vs ks ≡ true → (c : ℕ) → get_or vs c 0 ≤ cap T (get_or ks c 0)
unfolding all_fit fits
all_fit_lem T [] ks h c = omega arith
all_fit_lem T (v ∷ vs) [] h c = absurd (clash false h refl)
all_fit_lem T (v ∷ vs) (k ∷ ks) h zero = leb-true v (cap T k) (both_r (ltb k 16) (leb v (cap T k)) (both_l (fits T k v) (all_fit T vs ks) h))
all_fit_lem T (v ∷ vs) (k ∷ ks) h (suc c) = all_fit_lem T vs ks (both_r (fits T k v) (all_fit T vs ks) h) c

idle_below_lem : (m : ℕ) (ss : Sessions) → idle_below m ss ≡ true → (s : ℕ) → s < m → (session_at ss s).phase ≡ 0
unfolding idle_below
idle_below_lem zero ss h s l = absurd (omega arith)
idle_below_lem (suc m) ss h s l =
    same s m (λ e. rw e (eqb-true (session_at ss m).phase 0 (both_r (idle_below m ss) _ h))) (λ n. idle_below_lem m ss (both_l (idle_below m ss) _ h) s (omega arith))

all_idle_lem : (ss : Sessions) → length ss.records ≡ 16 → all_idle ss ≡ true → (s : ℕ) → (session_at ss s).phase ≡ 0
unfolding all_idle session_at
all_idle_lem ss k h s =
    test (ltb s 16) (λ l. idle_below_lem 16 ss h s (ltb-true s 16 l)) (λ l. rw (get_or-eq_default ss.records idle (let n = ltb-false s 16 l in let m : length ss.records ≤ s = omega arith in m)))

-- no entry is in use, so that the values alone are bound by the new table
capped_load : (T : List ℕ) (σ : Store) → Capped σ → Loaded T σ → Capped (with_caps T σ)
capped_load T σ I l =
    record {
      records = I.records;
      stored = all_fit_lem T σ.lent.values σ.lent.classes l.values;
      logged = λ s k u. absurd (u.0 (all_idle_lem σ.sessions I.records l.idle s));
    }

-- ---- the actions

-- what is left and what was told are within the caps
abbrev Within : List Told → Store → Type 0
Within ws τ = Capped τ × TellsWithin (cap_of τ) ws

within_call : (ws : List Told) (τ : Store) → Within ws τ → (k : Call) → Within (tells k (answer_of k τ) (found_by k (step k τ)) ++ ws) (step k τ)
within_call ws τ w k =
    let us = tells k (answer_of k τ) (found_by k (step k τ)) in (
      keeps_capped w.0 k,
      subst (λ (bound : ℕ → ℕ). TellsWithin bound (us ++ ws)) (sym (caps_step k τ))
          (all_append (WhereGot (λ c v. v ≤ cap_of τ c)) us ws (tells_within w.0 k) w.1),
    )

within_action : {σ : Store} → Capped σ → (k : Action) → Within (tells_of (event_of k σ)) (leaves k σ)
within_action {σ} I (one_call k) = subst (λ (ws : List Told). Within ws (step k σ)) (append-nil (tells k (answer_of k σ) (found_by k (step k σ)))) (within_call [] σ (I, tt) k)
within_action {σ} I (many_reads s cs words) = kept_by_reads (λ ws _ τ. Within ws τ) s (λ ws _ τ _ w c. within_call ws τ w (Read s c)) cs words σ (I, tt) (I, tt) (I, tt)
within_action {σ} I (load_caps T) = (load_cases (λ _ τ. Capped τ) T σ (capped_load T σ I) I I I I I, tt)

passing_action : (σ : Store) → Passing σ → (k : Action) → Passing (leaves k σ)
passing_action σ p (one_call k) = rw (limits_step k σ) p
passing_action σ p (many_reads s cs words) = kept_by_reads (λ _ _ τ. Passing τ) s (λ _ _ τ _ q c. rw (limits_step (Read s c) τ) q) cs words σ p p p
passing_action σ p (load_caps T) = load_cases (λ _ τ. Passing τ) T σ (λ l. (both_r (has_caps σ.limits.caps) (has_caps T) (both_l (has_caps σ.limits.caps && has_caps T) (lengths_fit σ.lent) l.lengths), l.table)) p p p p p

-- ---- every list of actions

-- from any store with the invariant
module _ {σ : Store} (I : Capped σ) (fit : Passing σ) where
  passing_run : (ks : List Action) → Passing (run σ ks)
  unfolding run
  passing_run [] = fit
  passing_run (k ∷ ks) = passing_action (run σ ks) (passing_run ks) k

  pub capped_run : (ks : List Action) → Capped (run σ ks)
  unfolding run
  capped_run [] = I
  capped_run (k ∷ ks) = (within_action (capped_run ks) k).0

  got_within : (ks : List Action) → EachGotWithin σ ks
  got_within [] = tt
  got_within (k ∷ ks) = (got_within ks, unfold run in (within_action (capped_run ks) k).1)

  pub within_from : (ks : List Action) → WithinCaps σ ks
  within_from ks = record { table = passing_run ks; stored = (capped_run ks).stored; got = got_within ks; logged = (capped_run ks).logged }

pub capped_fresh : (σ : Store) → Passed σ → Capped (fresh σ.limits σ.lent)
unfolding fresh
capped_fresh σ p =
    record {
      records = length-replicate {A = Session} 16 idle;
      stored = all_fit_lem σ.limits.caps σ.lent.values σ.lent.classes p.values;
      logged = λ s k u. absurd (u.0 (ap (λ (x : Session). x.phase) (first σ.limits σ.lent s)));
    }

-- any store that set-up answers 100, with whatever table passed, and any list of actions from what it leaves
pub within_caps : (σ : Store) → number (set_up_answer σ) ≡ 100 → (actions : List Action) → WithinCaps (set_up σ) (reverse actions)
within_caps σ h actions =
    subst (λ (φ : Store). WithinCaps φ (reverse actions)) (sym (set_up_fresh σ h)) (let p = set_up_passed σ h in within_from (capped_fresh σ p) (unfold fresh in (both_l (has_caps σ.limits.caps) _ p.lengths, p.table)) (reverse actions))

-- of what a set-up left that kept its contract and answered 100
pub within_caps_of_code : (φ σ : Store) (a : Answer) → outcome a σ ≡ set_up_effect φ → number a ≡ 100 → (actions : List Action) → WithinCaps σ (reverse actions)
unfolding set_up_effect
within_caps_of_code φ σ a e n actions =
    let f = ap (λ (o : Outcome). o.answer) e in
    subst (λ (σ : Store). WithinCaps σ (reverse actions)) (sym (ap (λ (o : Outcome). o.store) e)) (within_caps φ (ap number (sym f) ∙ n) actions)
