-- A call on every run of the length given, with the lock given: refused by 7 or 1, or its turn put back, with its change carried out on the run.
use mathlib.Core.Path.{◌≡◌, refl, sym, ap, ◌∙◌}
use mathlib.Core.Bool.{true}
use mathlib.Core.List.{List}
use Prim.Native.Nat.{ℕ, ◌%◌, ◌<◌, ◌≤◌}
use native.Mathlib.Omega.{arith}
use borrow.Author.Tests.{ne_eqb}
use lib.ListN.{length}
use Rattle.model.specs.Buffers.{Limits, ours, session_at, with_session, log_in, lock_at}
use Rattle.model.specs.Plans.{plan, table_fits}
use Rattle.model.specs.Step.{session_of}
use Rattle.model.specs.Turns.{TurnEffect, leaves, turn_of, changed}
use Rattle.records.specs.declared.Session.{Session}
use Rattle.records.specs.declared.Sessions.{Sessions}
use Rattle.records.specs.declared.Lock.{Lock}
use Rattle.records.specs.declared.Refusal.{Refusal}
use Rattle.records.specs.declared.Turn.{Turn as CallTurn}
use Rattle.records.specs.declared.Answer.TheVariants.{Refused}
use Rattle.records.specs.declared.Plan.{Plan}
use Rattle.records.specs.declared.Call.{Call}
use Rattle.records.specs.Records.{refusal_number}
use Rattle.records.proofs.Refusals.{nonzero}
use Rattle.model.proofs.Tables.{goes_fits, goes_plan}
use Rattle.locks.specs.Changes.{ChangeFits as Fits}
use Rattle.refusals.specs.declared.Lengths.{Lengths}
use Rattle.refusals.specs.Pieces.{match_of, admission}
use Rattle.any_call.specs.AnyCall.{cell_for, plan_with}
use Rattle.turns.specs.InLogs.{in_logs}
use Rattle.turns.proofs.Fitting.{call_fits}
use Rattle.refusals.proofs.Admission
use Rattle.refusals.proofs.Admission.{Fitting, fitting, admits, lengths_in, plan_refused}
use Rattle.session_log.proofs.Logs.{log_long}
use Rattle.turns.proofs.Forms.{admitted_by}
use Rattle.turns.proofs.InLogs.{left, still}
use Rattle.any_call.proofs.AnyCall.{one_lock}
use Rattle.turns.proofs.Whole.{plan_under, plan_in, takes_under}
use Rattle.run_turns.specs.declared.Turn.{Turn}
use Rattle.run_changes.specs.Run.{unzipped, lent_on, store_on, lock_in, count_of, swept, swept_by, on_run}
use Rattle.run_turns.specs.Turns.{lengths_on, look_of, only_answer, IsTurnUnder, IsTurn}
use Rattle.run_changes.proofs.Changes.{each_length, unzipped_at, changes, change_fits}

-- ---- the lengths N that the code told: n values, k classes, m locks, and the logs W

module _ (n k m : ℕ) (W : List ℕ) (N : Lengths) (f : N ≡ lengths_on n k m (length W)) where
  -- they are those of the buffers of every run so long
  pub same_lengths : (vs cs : List ℕ) (L : List Lock) → length vs ≡ n → length cs ≡ k → length L ≡ m → N ≡ lengths_in (lent_on vs cs L W)
  same_lengths vs cs L i j q = f ∙ rw (i, j, each_length (λ l. l.readers) L, each_length (λ l. l.claimant) L, each_length (λ l. l.exclusive) L, q)

  -- past refusals 7 and 1
  module _ (s : ℕ) (z : 0 ≡ admission (match_of N) s) where
    lengths : Fitting (lengths_on n k m (length W))
    lengths = rw f at (fitting N (admits N s z).0)

    pub low : s < 16
    low = (admits N s z).1

    pub words : length W ≡ 2048
    words = lengths.logs

    pub few : n ≤ 1024
    few = lengths.few

    pub classed : k ≡ n
    classed = lengths.classes

    pub locked : m ≡ n
    locked = lengths.readers

    -- of the session's log, as the code has it
    pub log_fits : (log : List ℕ) → log ≡ log_in W s → (length log ≡ 128) × (n ≤ 1024)
    log_fits log w = (log_long W s words low log w, few)

-- ---- one lock

-- the cell that is looked up
module _ (call : Call) (ss : Sessions) (n k m : ℕ) (W : List ℕ) (N : Lengths) (f : N ≡ lengths_on n k m (length W)) (s : ℕ) (i : s ≡ session_of call) where
  pub looks_nowhere : (r : Refusal) → refusal_number r ≡ admission (match_of N) s → 0 ≡ look_of call ss n k m W
  unfolding look_of
  looks_nowhere r e = rw (← i, ← (rw f at e), ne_eqb (refusal_number r) 0 (nonzero r))

  pub looks : 0 ≡ admission (match_of N) s → (log : List ℕ) → log ≡ log_in W s → (x : Session) → x ≡ session_at ss (s % 16) → (c : ℕ) → c ≡ cell_for call n log x
      → c ≡ look_of call ss n k m W
  unfolding look_of
  looks z log w x o c g =
      let h = low n k m W N f s z in let own : s % 16 ≡ s = omega arith in
      g ∙ rw (w, o, own, ← i, ← (rw f at z))

-- ---- the call k, of values vs, classes cs, logs W and m locks

module _ (k : Call) (vs cs W : List ℕ) (ss : Sessions) (m : ℕ) (l : Lock) (N : Lengths) (f : N ≡ lengths_on (length vs) (length cs) m (length W)) (s : ℕ) (i : s ≡ session_of k) where
  pub turned_down_under : (r : Refusal) → refusal_number r ≡ admission (match_of N) s → (t : Turn) → t ≡ only_answer ss (Refused (refusal_number r)) → (G : Limits) → table_fits k G ≡ true
      → (c : ℕ) → IsTurnUnder G k c vs cs m l W ss vs W t
  unfolding count_of swept
  turned_down_under r e t h G g c =
      rw h (
        tt,
        λ L q o.
            Admission.refuses k (store_on G vs cs L W ss) (refusal_number r)
            (plan_refused (lent_on vs cs L W) s r (rw (same_lengths (length vs) (length cs) m W N f vs cs L refl refl q) at e) k i (store_on G vs cs L W ss) g refl),
      )

  pub turned_down : (r : Refusal) → refusal_number r ≡ admission (match_of N) s → (t : Turn) → t ≡ only_answer ss (Refused (refusal_number r)) → IsTurn k vs cs m l W ss vs W t
  turned_down r e t h G g = turned_down_under r e t h G (goes_fits k G g) (look_of k ss (length vs) (length cs) m W)

  -- admitted, with the record x
  module _ (z : 0 ≡ admission (match_of N) s) (x : Session) (y : x ≡ session_at ss (s % 16)) where
    own : s < 16
    own = low (length vs) (length cs) m W N f s z

    long : length W ≡ 2048
    long = words (length vs) (length cs) m W N f s z

    -- the record, as the model names its place
    mine : session_at ss (session_of k % 16) ≡ x
    mine = rw i at (sym y)

    -- what is decided under the limits G with the lock l, which is that of cell c; t is its turn, which left the values vs' and the logs Ws
    module _ (G : Limits) (g : table_fits k G ≡ true) (c : ℕ)
        (w : (L : List Lock) → lock_in L c ≡ l → plan k (length vs) cs G (log_in W s) x (λ _. l) ≡ plan_under G k (lent_on vs cs L W) (log_in W s) x) (t : CallTurn) (vs' Ws : List ℕ)
        (h : leaves t.answer vs' Ws t.session t.change ≡ in_logs s W (turn_of (plan k (length vs) cs G (log_in W s) x (λ _. l)) vs (log_in W s) x)) where
      can_change : Fits t.change s (log_in Ws s) x.count (length vs)
      can_change =
          let d = log_fits (length vs) (length cs) m W N f s z (log_in W s) refl in
          rw (left s W own long _ _ _ _ _ _ _ _ h, ap (λ (f : TurnEffect). f.change) h) (call_fits (length vs) (log_in W s) x s vs own d.0 d.1 cs G (λ _. l) k _ refl)

      kept : length Ws ≡ 2048
      kept = still s W own long _ _ _ _ _ _ _ _ h

      swept_run : (L : List Lock) → length L ≡ m → unzipped (swept_by Ws (on_run t.change s x.count) L) ≡ changed t.change (log_in Ws s) x.count s (unzipped L)
      swept_run L q =
          let e = few (length vs) (length cs) m W N f s z in let u = locked (length vs) (length cs) m W N f s z in
          changes t.change Ws s x.count L (omega arith)

      pub taken_under : (r : Turn) → r ≡ record { reply = record { answer = t.answer; sessions = with_session ss (s % 16) t.session }; change = on_run t.change s x.count }
          → IsTurnUnder G k c vs cs m l W ss vs' Ws r
      taken_under r e =
          rw e (
            change_fits t.change Ws (log_in Ws s) s x.count (length vs) own (log_long Ws s kept own (log_in Ws s) refl) kept can_change,
            λ L q o.
                let a = admitted_by (lent_on vs cs L W) s N (same_lengths (length vs) (length cs) m W N f vs cs L refl refl q) z in
                rw (← i) at
                (takes_under G k (lent_on vs cs L W) x s i a _ (w L o) t.answer vs' Ws t.session t.change h (log_in Ws s) refl g
                (unzipped (swept_by Ws (on_run t.change s x.count) L)) (swept_run L q) ss mine),
          )

    -- the lock that was looked up is the one that the plan reads
    with_lock : (L : List Lock) → lock_in L (look_of k ss (length vs) (length cs) m W) ≡ l → plan_with k (length vs) cs (log_in W s) x l ≡ plan_in k (lent_on vs cs L W) (log_in W s) x
    with_lock L g =
        let there : look_of k ss (length vs) (length cs) m W ≡ cell_for k (length vs) (log_in W s) x = sym (looks k ss (length vs) (length cs) m W N f s i z _ refl x y _ refl) in
        let h : l ≡ lock_at (unzipped L) (cell_for k (length vs) (log_in W s) x) = sym g ∙ sym (unzipped_at L _) ∙ ap (lock_at (unzipped L)) there in
        rw h (one_lock k (length vs) cs (log_in W s) x (lock_at (unzipped L)))

    pub taken : (t : CallTurn) (vs' Ws : List ℕ)
        → leaves t.answer vs' Ws t.session t.change ≡ in_logs s W (turn_of (plan_with k (length vs) cs (log_in W s) x l) vs (log_in W s) x)
        → (r : Turn) → r ≡ record { reply = record { answer = t.answer; sessions = with_session ss (s % 16) t.session }; change = on_run t.change s x.count }
        → IsTurn k vs cs m l W ss vs' Ws r
    taken t vs' Ws h r e G g =
        let by : (lock : ℕ → Lock) → plan k (length vs) cs ours (log_in W s) x lock ≡ plan k (length vs) cs G (log_in W s) x lock = goes_plan k G g (length vs) cs (log_in W s) x in
        taken_under G (goes_fits k G g) (look_of k ss (length vs) (length cs) m W) (λ L o. sym (by (λ _. l)) ∙ with_lock L o ∙ by (lock_at (unzipped L)))
        t vs' Ws (h ∙ ap (λ (p : Plan). in_logs s W (turn_of p vs (log_in W s) x)) (by (λ _. l))) r e
