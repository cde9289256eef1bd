-- A call's turn put back in what was lent, with the locks changed, is the model's call: the law by which every form of the locks meets its contracts.
use mathlib.Core.Path.{◌≡◌, ap, ◌∙◌}
use mathlib.Core.Bool.{true}
use mathlib.Core.List.{List}
use Prim.Native.Nat.{ℕ, ◌%◌, ◌<◌}
use native.Mathlib.Omega.{arith}
use borrow.Author.Tests.{lt-ltb}
use lib.ListN.{length}
use Rattle.model.specs.Buffers.{Locks, Buffers, Limits, ours, Store, size, session_at, with_session, log_in, lock_at, lengths_fit}
use Rattle.model.specs.Plans.{plan, table_fits}
use Rattle.model.specs.Effects.{answer, after, record_of, log_of}
use Rattle.model.specs.Step.{outcome, answer_of, step, effect, plan_of, session_of, TakesUnder, TakesRecord}
use Rattle.model.specs.Turns.{TurnEffect, leaves, turn_of, changed, carried}
use Rattle.records.specs.declared.Session.{Session}
use Rattle.records.specs.declared.Sessions.{Sessions}
use Rattle.records.specs.declared.Call.{Call}
use Rattle.records.specs.declared.Answer.{Answer}
use Rattle.records.specs.declared.Plan.{Plan}
use Rattle.records.specs.declared.Change.{Change}
use Rattle.model.proofs.Laws.{log_length}
use Rattle.model.proofs.Carried.{carries}
use Rattle.model.proofs.Tables.{goes_fits, goes_plan}
use Rattle.locks.specs.Changes.{ChangeFits}
use Rattle.refusals.proofs.Admission.{Admitted}
use Rattle.turns.specs.InLogs.{in_logs}
use Rattle.turns.proofs.InLogs.{left}
use Rattle.turns.proofs.Fitting.{call_fits}

-- past refusals 7 and 1 any call's plan is what its session decides
pub planned : (k : Call) (σ : Store) → table_fits k σ.limits ≡ true → lengths_fit σ.lent ≡ true → session_of k < 16
    → plan k (size σ.lent) σ.lent.classes σ.limits (log_of σ (session_of k)) (record_of σ (session_of k)) (lock_at σ.lent.locks) ≡ plan_of k σ
unfolding plan_of
planned k σ t h low = rw (t, h, lt-ltb (session_of k) 16 low)

-- the plan, as the code decides it under the limits G, of the lent buffers B, the session's log W and the record x; and by our caps
abbrev pub plan_under : Limits → Call → Buffers → List ℕ → Session → Plan
plan_under G k B W x = plan k (length B.values) B.classes G W x (lock_at B.locks)

abbrev pub plan_in : Call → Buffers → List ℕ → Session → Plan
plan_in k B W x = plan_under ours k B W x

module _ (G : Limits) (k : Call) (B : Buffers) (x : Session) (s : ℕ) (i : s ≡ session_of k) (z : Admitted B s) where
  own : session_of k % 16 ≡ session_of k
  own = let l = z.low in omega arith

  -- of sixteen records of which x is the session's
  module _ (f : table_fits k G ≡ true) (ss : Sessions) (o : session_at ss (session_of k % 16) ≡ x) where
    abbrev given : Store
    given = record { lent = B; limits = G; sessions = ss }

    mine : session_at ss (session_of k) ≡ x
    mine = rw own at o

    pub is_plan : plan_under G k B (log_in B.logs s) x ≡ plan_of k given
    unfolding size
    is_plan = rw (i, ← mine) (planned k given f z.fit (let l = z.low in omega arith))

    decided : (p : Plan) → p ≡ plan_of k given → outcome (answer (session_of k) p given) (after (session_of k) p given) ≡ effect k given
    unfolding effect answer_of step
    decided p e = rw e

    whole : (p : Plan) → p ≡ plan_under G k B (log_in B.logs s) x → carried (session_of k) (turn_of p B.values (log_in B.logs s) x) given ≡ effect k given
    whole p e =
        rw (i, ← mine)
        (carries (session_of k) given (let l = z.low in omega arith) z.lengths.logs p ∙ decided p (e ∙ is_plan))

  -- p is what was decided; the turn answered a and left the values vs and the logs Ws
  module _ (p : Plan) (e : p ≡ plan_under G k B (log_in B.logs s) x) (a : Answer) (vs Ws : List ℕ) (y : Session) (d : Change)
      (t : leaves a vs Ws y d ≡ in_logs s B.logs (turn_of p B.values (log_in B.logs s) x)) where
    abbrev turn : TurnEffect
    turn = turn_of p B.values (log_in B.logs s) x

    is_left_lem : log_in Ws s ≡ turn.log
    is_left_lem = left s B.logs z.low z.lengths.logs a vs Ws y d p B.values x t

    -- W is the session's log then, as the code has it: the change can be carried out
    module _ (W : List ℕ) (v : W ≡ log_in Ws s) where
      pub can_change : ChangeFits d s W x.count (length B.values)
      can_change =
          rw (v, is_left_lem, ap (λ (f : TurnEffect). f.change) t)
          (call_fits (length B.values) (log_in B.logs s) x s B.values z.low (log_length B.logs s z.low z.lengths.logs) z.lengths.few
          B.classes G (lock_at B.locks) k p e)

      -- and with the locks so changed all is as the model leaves it
      pub takes_under : table_fits k G ≡ true → (L : Locks) → L ≡ changed d W x.count s B.locks
          → TakesUnder G k B x a (record { values = vs; classes = B.classes; locks = L; logs = Ws }) y
      unfolding carried
      takes_under f L l ss o =
          let put : outcome a (record { lent = record { values = vs; classes = B.classes; locks = L; logs = Ws }; limits = G; sessions = with_session ss (session_of k % 16) y })
          ≡ carried (session_of k) turn (given f ss o) =
          rw (l, v, is_left_lem, own, ap (λ (f : TurnEffect). f.answer) t, ap (λ (f : TurnEffect). f.values) t, ap (λ (f : TurnEffect). f.log) t, ap (λ (f : TurnEffect). f.session) t, ap (λ (f : TurnEffect). f.change) t, i, mine f ss o) in
          put ∙ whole f ss o p e

-- the same of a call that is handed no table, whatever the limits are that it goes by
pub takes : (k : Call) (B : Buffers) (x : Session) (s : ℕ) → s ≡ session_of k → Admitted B s → (p : Plan) → p ≡ plan_in k B (log_in B.logs s) x
    → (a : Answer) (vs Ws : List ℕ) (y : Session) (d : Change) → leaves a vs Ws y d ≡ in_logs s B.logs (turn_of p B.values (log_in B.logs s) x)
    → (W : List ℕ) → W ≡ log_in Ws s → (L : Locks) → L ≡ changed d W x.count s B.locks
    → TakesRecord k B x a (record { values = vs; classes = B.classes; locks = L; logs = Ws }) y
takes k B x s i z p e a vs Ws y d t W v L l G g =
    takes_under G k B x s i z p (e ∙ goes_plan k G g (length B.values) B.classes (log_in B.logs s) x (lock_at B.locks)) a vs Ws y d t W v (goes_fits k G g) L l
