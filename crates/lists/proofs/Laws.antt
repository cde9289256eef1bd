-- What any call decides with one lock is its plan, and its reply of all sixteen records is the model's.
use mathlib.Core.Path.{◌≡◌, sym}
use mathlib.Core.List.{List}
use Prim.Native.Nat.{ℕ, ◌%◌}
use Rattle.model.specs.Buffers.{Locks, Buffers, Limits, ours, session_at, with_session, lock_at}
use Rattle.model.specs.Plans.{plan}
use Rattle.model.specs.Step.{outcome, effect, session_of, GoesBy, TakesRecord}
use Rattle.records.specs.declared.Session.{Session}
use Rattle.records.specs.declared.Lock.{Lock}
use Rattle.records.specs.declared.Sessions.{Sessions}
use Rattle.records.specs.declared.Call.{Call}
use Rattle.records.specs.declared.Turn.{Turn}
use Rattle.records.specs.declared.Reply.{Reply}
use Rattle.any_call.specs.AnyCall.{cell_for, plan_with}
use Rattle.any_call.proofs.AnyCall.{one_lock}

-- with the lock of the cell that it may need
pub any_planned : (k : Call) (n : ℕ) (ks log W : List ℕ) (x : Session) (L : Locks) (l : Lock) (c : ℕ) → W ≡ log → c ≡ cell_for k n W x → l ≡ lock_at L c
    → plan_with k n ks log x l ≡ plan k n ks ours log x (lock_at L)
any_planned k n ks log W x L l c w f g = rw (g, f, w) (one_lock k n ks log x (lock_at L))

-- x is the session's, and the reply has the record handed back in its place
pub of_sixteen : (k : Call) (B C : Buffers) (ss : Sessions) (s : ℕ) → s ≡ session_of k → (x : Session) → x ≡ session_at ss (s % 16) → (t : Turn) → TakesRecord k B x t.answer C t.session
    → (r : Reply) → r ≡ record { answer = t.answer; sessions = with_session ss (s % 16) t.session }
    → (G : Limits) → GoesBy k G → outcome r.answer (record { lent = C; limits = G; sessions = r.sessions }) ≡ effect k (record { lent = B; limits = G; sessions = ss })
of_sixteen k B C ss s i x o t h r f G g = rw (f, i) (h G g ss (sym (rw i at o)))
