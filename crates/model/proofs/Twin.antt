-- Peek and its twin go together: the part is empty exactly where the twin refuses. By cases on the plan, which both go by.
use Prim.Native.Nat.{ℕ}
use native.Mathlib.Omega.{arith}
use mathlib.Core.Path.{◌≡◌, refl}
use mathlib.Core.Logic.{◌⊎◌, inl, inr}
use Rattle.records.specs.declared.Call.TheVariants.{Peek}
use Rattle.records.specs.declared.Answer.TheVariants.{Done}
use Rattle.records.specs.declared.Plan.{Plan}
use Rattle.records.specs.declared.Plan.TheVariants.{Refuse, ShowStore, ShowLog}
use Rattle.model.specs.Buffers.{Store, entry_at, slot_in}
use Rattle.model.specs.Plans.{peek_slot, plan}
use Rattle.model.specs.Effects.{number, record_of, answer, no_word, shown, log_of}
use Rattle.model.specs.Step.{peek_shows, plan_of, answer_of}
use Rattle.model.proofs.Passing.{choose, running_cell}
use Rattle.model.proofs.Tools.{split}

-- with no word a refusal, or with a word 100
abbrev pub Tied : ℕ → Plan → Store → Type 0
Tied s p σ = ((shown s p σ ≡ no_word) × (number (answer s p σ) ≡ 100 → ⊥)) ⊎ ((shown s p σ ≡ no_word → ⊥) × (answer s p σ ≡ Done))

tied_refusal : (s k : ℕ) (σ : Store) → (k ≡ 100 → ⊥) → Tied s (Refuse k) σ
unfolding shown answer
tied_refusal s k σ h = inl (refl, h)

tied_store : (s c : ℕ) (σ : Store) → Tied s (ShowStore c) σ
unfolding shown answer
tied_store s c σ = inr (λ e. let z : ◌≡◌ {A = ℕ} 0 1 = cc in omega arith, refl)

tied_log : (s k : ℕ) (σ : Store) → Tied s (ShowLog k) σ
unfolding shown answer
tied_log s k σ = inr (λ e. let z : ◌≡◌ {A = ℕ} 0 1 = cc in omega arith, refl)

pub peek_and_twin : (σ : Store) (s c : ℕ)
    → ((peek_shows s c σ ≡ no_word) × (number (answer_of (Peek s c) σ) ≡ 100 → ⊥)) ⊎ ((peek_shows s c σ ≡ no_word → ⊥) × (answer_of (Peek s c) σ ≡ Done))
unfolding answer_of plan_of plan peek_slot
peek_and_twin σ s c =
    let P : Plan → Type 0 = λ p. Tied s p σ in
    running_cell P σ.lent s (record_of σ s) c (peek_slot (log_of σ s) c (slot_in (log_of σ s) (record_of σ s).count c))
    (tied_refusal s 7 σ (λ e. omega arith)) (tied_refusal s 1 σ (λ e. omega arith)) (tied_refusal s 9 σ (λ e. omega arith))
    (tied_refusal s 2 σ (λ e. omega arith)) (tied_refusal s 3 σ (λ e. omega arith))
    (λ _ _ _. choose P (peek_slot (log_of σ s) c) (slot_in (log_of σ s) (record_of σ s).count c) (λ _. tied_refusal s 14 σ (λ e. omega arith))
    (λ k _. split P (entry_at (log_of σ s) k).dirty (λ _. tied_log s k σ) (λ _. tied_store s c σ)))
