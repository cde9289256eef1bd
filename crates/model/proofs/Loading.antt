-- A load by cases (document 02, Paper 5): with what it tested the table is the new one, else all is as it was.
use Prim.Native.Nat.{ℕ}
use mathlib.Core.Path.{◌≡◌}
use mathlib.Core.Bool.{true, ◌&&◌}
use mathlib.Core.List.{List}
use Rattle.records.specs.declared.Answer.{Answer}
use Rattle.records.specs.declared.Answer.TheVariants.{Done, Refused}
use Rattle.model.specs.Buffers.{Store, has_caps, passes, all_fit, lengths_fit}
use Rattle.model.specs.Load.{all_idle, all_classed, load_refusal, with_caps, load_answer, load}
use Rattle.model.proofs.Tools.{test}

-- what a load answered 100 has tested
pub record Loaded (T : List ℕ) (σ : Store) : Type 0 where
  pub lengths : (has_caps σ.limits.caps && has_caps T && lengths_fit σ.lent) ≡ true
  pub idle : all_idle σ.sessions ≡ true
  pub table : passes T ≡ true
  pub classes : all_classed σ.lent.classes ≡ true
  pub values : all_fit T σ.lent.values σ.lent.classes ≡ true

-- what holds of the answer and the store, passed or refused
pub load_cases {ℓ} : (P : Answer → Store → Type ℓ) (T : List ℕ) (σ : Store) → (Loaded T σ → P Done (with_caps T σ))
    → P (Refused 7) σ → P (Refused 2) σ → P (Refused 16) σ → P (Refused 8) σ → P (Refused 17) σ → P (load_answer T σ) (load T σ)
unfolding load_answer load load_refusal
load_cases P T σ f r7 r2 r16 r8 r17 =
    test (has_caps σ.limits.caps && has_caps T && lengths_fit σ.lent)
    (λ a. test (all_idle σ.sessions)
    (λ b. test (passes T)
    (λ c. test (all_classed σ.lent.classes)
    (λ d. test (all_fit T σ.lent.values σ.lent.classes)
    (λ e. rw (a, b, c, d, e) (f (record { lengths = a; idle = b; table = c; classes = d; values = e })))
    (λ e. rw (a, b, c, d, e) r17))
    (λ d. rw (a, b, c, d) r8))
    (λ c. rw (a, b, c) r16))
    (λ b. rw (a, b) r2))
    (λ a. rw a r7)
