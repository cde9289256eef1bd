-- A plan is of one variant.
use mathlib.Core.Path.{◌≡◌, sym, ap, subst, ◌∙◌}
use mathlib.Core.Bool.{not}
use Prim.Native.Nat.{ℕ}
use lib.Dec.{T, T_not, eqb, eqb_refl}
use denote.Enum.Declared.{tag_of}
use Rattle.records.specs.declared.Plan.{Plan}
use Rattle.records.specs.contracts.Plan as plan

abbrev pub tag : Plan → ℕ
tag p = tag_of plan.the_type p

-- no plan is of two variants, which `tt` shows
pub clashes : (p q r : Plan) → T (not (eqb (tag q) (tag r))) → p ≡ q → p ≡ r → ⊥
clashes p q r t e f = T_not (eqb (tag q) (tag r)) t (subst (λ (k : ℕ). T (eqb (tag q) k)) (ap tag (sym e ∙ f)) (eqb_refl (tag q)))
