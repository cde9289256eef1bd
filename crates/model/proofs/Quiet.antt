-- The plans by which nothing is told and nothing changes: those of peek, and every refusal but 6. A call that only answers is one of these,
-- and each theorem over calls has one law for all of them.
use Prim.Native.Nat.{ℕ}
use native.Mathlib.Omega.{arith}
use mathlib.Core.Path.{◌≡◌, refl}
use mathlib.Core.Bool.{true, false, not, ◌&&◌}
use mathlib.Core.List.{[]}
use lib.Dec.{ltb, eqb}
use Rattle.records.specs.declared.Call.{Call}
use Rattle.records.specs.declared.Call.TheVariants.{Peek}
use Rattle.records.specs.declared.Plan.{Plan}
use Rattle.records.specs.declared.Plan.TheVariants.{Refuse}
use Rattle.model.specs.Buffers.{Store, size, entry_at, slot_in}
use Rattle.model.specs.Plans.{peek_slot, guard, known, admit, plan}
use Rattle.model.specs.Effects.{number, record_of, log_of, answer, after}
use Rattle.model.specs.Step.{plan_of, session_of}
use Rattle.model.specs.Told.{ending, tells}
use Rattle.model.proofs.Passing.{choose, running_cell}
use Rattle.model.proofs.Telling.{off, not_six, refused_tells}
use Rattle.model.proofs.Tools.{split}

pub record Quiet (k : Call) (σ : Store) (p : Plan) : Type 0 where
  pub told : (f : ℕ) → tells k (answer (session_of k) p σ) f ≡ []
  pub left : after (session_of k) p σ ≡ σ
  pub not_6 : eqb (number (answer (session_of k) p σ)) 6 ≡ false
  pub not_104 : eqb (number (answer (session_of k) p σ)) 104 ≡ false
  pub not_105 : eqb (number (answer (session_of k) p σ)) 105 ≡ false

pub refuses : (k : Call) (σ : Store) (r : ℕ) → (ltb r 100 && not (eqb r 6)) ≡ true → Quiet k σ (Refuse r)
unfolding answer after
refuses k σ r small =
    record { told = refused_tells r small k; left = refl; not_6 = not_six r small; not_104 = off r small 104 (omega arith); not_105 = off r small 105 (omega arith) }

-- a call of a running session on a cell
on_cell : (k : Call) (σ : Store) (c : ℕ) (p : Plan) → let s = session_of k in Quiet k σ p → Quiet k σ (admit σ.lent s (guard (size σ.lent) (log_of σ s) (record_of σ s) (eqb (record_of σ s).phase 1) (known (size σ.lent) c p)))
on_cell k σ c p q =
    running_cell (Quiet k σ) σ.lent (session_of k) (record_of σ (session_of k)) c p (refuses k σ 7 refl) (refuses k σ 1 refl) (refuses k σ 9 refl) (refuses k σ 2 refl) (refuses k σ 3 refl)
    (λ _ _ _. q)

pub peeks : (σ : Store) (s c : ℕ) → Quiet (Peek s c) σ (plan_of (Peek s c) σ)
unfolding plan_of plan peek_slot answer after tells ending
peeks σ s c =
    on_cell (Peek s c) σ c (peek_slot (log_of σ s) c (slot_in (log_of σ s) (record_of σ s).count c))
    (choose (Quiet (Peek s c) σ) (peek_slot (log_of σ s) c) (slot_in (log_of σ s) (record_of σ s).count c) (λ _. refuses (Peek s c) σ 14 refl)
    (λ k _. split (Quiet (Peek s c) σ) (entry_at (log_of σ s) k).dirty
    (λ _. record { told = λ _. refl; left = refl; not_6 = refl; not_104 = refl; not_105 = refl })
    (λ _. record { told = λ _. refl; left = refl; not_6 = refl; not_104 = refl; not_105 = refl })))
