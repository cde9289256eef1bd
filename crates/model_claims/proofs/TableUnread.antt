-- No call but a write reads the table of caps in force: `Unread` of model/specs/Load.antt. No plan does anything with it, and no other call decides by it.
use Prim.Native.Nat.{ℕ}
use mathlib.Core.Path.{◌≡◌, refl, ap, ◌∙◌}
use mathlib.Core.Bool.{Bool, true, false}
use mathlib.Core.List.{List}
use native.Mathlib.Omega.{arith}
use Rattle.records.specs.declared.Call.{Call}
use Rattle.records.specs.declared.Call.TheVariants.{Begin, Read, Write, Seal, Advance, Abandon, Peek, Hold}
use Rattle.records.specs.declared.Plan.{Plan}
use Rattle.records.specs.declared.Plan.TheVariants.{Refuse, Start, Tell, Enter, Update, EnterUpdate, Mark, EnterMark, RollBack, Cancel, CommitReads, BeginPromotion, Wait, Acquire, Publish, Release, ShowStore, ShowLog}
use Rattle.model.specs.Buffers.{Store}
use Rattle.model.specs.Computing.{computing}
use Rattle.model.specs.Effects.{number, answer, after}
use Rattle.model.specs.Load.{with_caps, Unread}
use Rattle.model.specs.OwnCaps.{low, high, one_cell}
use Rattle.model.specs.Plans.{plan}
use Rattle.model.proofs.Tools.{clash}
use Rattle.model.specs.Step.{session_of, plan_of, step, answer_of}

abbrev pub is_write : Call → Bool
is_write (Begin s) = false
is_write (Read s c) = false
is_write (Write s c v) = true
is_write (Seal s) = false
is_write (Advance s) = false
is_write (Abandon s) = false
is_write (Peek s c) = false
is_write (Hold s c) = false

module _ (T : List ℕ) (σ : Store) where
  -- what a plan does
  module _ (s : ℕ) where
    abbrev Same : Plan → Type 0
    Same p = (answer s p (with_caps T σ) ≡ answer s p σ) × (after s p (with_caps T σ) ≡ with_caps T (after s p σ))

    under : (p : Plan) → Same p
    unfolding answer after
    under (Refuse k) = (refl, refl)
    under Start = (refl, refl)
    under (Tell v) = (refl, refl)
    under (Enter c) = (refl, refl)
    under (Update k v) = (refl, refl)
    under (EnterUpdate c v) = (refl, refl)
    under (Mark k v) = (refl, refl)
    under (EnterMark c) = (refl, refl)
    under RollBack = (refl, refl)
    under Cancel = (refl, refl)
    under CommitReads = (refl, refl)
    under BeginPromotion = (refl, refl)
    under (Wait c k) = (refl, refl)
    under (Acquire c) = (refl, refl)
    under (Publish c v) = (refl, refl)
    under (Release c) = (refl, refl)
    under (ShowStore c) = (refl, refl)
    under (ShowLog k) = (refl, refl)

  unread : (k : Call) → plan_of k (with_caps T σ) ≡ plan_of k σ → Unread k T σ
  unfolding answer_of step
  unread k e =
      let s = session_of k in
      let w = under s (plan_of k σ) in
      record { answer = ap (λ (p : Plan). answer s p (with_caps T σ)) e ∙ w.0; left = ap (λ (p : Plan). after s p (with_caps T σ)) e ∙ w.1 }

  pub table_unread : (k : Call) → is_write k ≡ false → Unread k T σ
  unfolding plan_of plan
  table_unread (Begin s) h = unread (Begin s) refl
  table_unread (Read s c) h = unread (Read s c) refl
  table_unread (Write s c v) h = absurd (clash true refl h)
  table_unread (Seal s) h = unread (Seal s) refl
  table_unread (Advance s) h = unread (Advance s) refl
  table_unread (Abandon s) h = unread (Abandon s) refl
  table_unread (Peek s c) h = unread (Peek s c) refl
  table_unread (Hold s c) h = unread (Hold s c) refl

-- a write does: 8 is within the one table and above the other
pub write_reads : Unread (Write 0 0 8) low (one_cell high 2) → ⊥
unfolding computing
write_reads u = let e : ◌≡◌ {A = ℕ} 4 100 = ap number u.answer in omega arith
