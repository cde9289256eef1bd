-- What holds of every refusal, and of a plan where its tests pass, holds of the plan behind the tests; so a begin keeps the locks.
use mathlib.Core.Path.{◌≡◌, refl}
use mathlib.Core.Bool.{Bool, true}
use mathlib.Core.List.{List}
use Prim.Native.Nat.{ℕ}
use Rattle.model.specs.Plans.{require, record_fits, guard}
use Rattle.model.specs.Turns.{turn_of}
use Rattle.records.specs.declared.Session.{Session}
use Rattle.records.specs.declared.Plan.{Plan}
use Rattle.records.specs.declared.Plan.TheVariants.{Refuse, Start}
use Rattle.records.specs.declared.Change.TheVariants.{Keep}
use Rattle.model.proofs.Tools.{split}

module _ (Q : Plan → Type 0) (no : (k : ℕ) → Q (Refuse k)) where
  pub required : (b : Bool) (k : ℕ) (p : Plan) → (b ≡ true → Q p) → Q (require b (Refuse k) p)
  required b k p q = split Q b q (λ t. no k)

  pub guarded : (n : ℕ) (log : List ℕ) (x : Session) (fit : Bool) (p : Plan) → (record_fits n log x ≡ true → fit ≡ true → Q p) → Q (guard n log x fit p)
  unfolding guard
  guarded n log x fit p q = required (record_fits n log x) 9 (require fit (Refuse 2) p) (λ t. required fit 2 p (q t))

pub begin_keeps : (n : ℕ) (log : List ℕ) (x : Session) (vs : List ℕ) (b : Bool) → (turn_of (guard n log x b Start) vs log x).change ≡ Keep
unfolding turn_of
begin_keeps n log x vs b = guarded (λ p. (turn_of p vs log x).change ≡ Keep) (λ k. refl) n log x b Start (λ t u. refl)
