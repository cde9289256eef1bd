-- One law for each way through a seal.
use mathlib.Core.Path.{◌≡◌, refl, sym, ◌∙◌}
use mathlib.Core.Bool.{Bool, true, false}
use mathlib.Core.Option.{Option, none, some}
use mathlib.Core.List.{List}
use Prim.Native.Nat.{ℕ}
use lib.Dec.{eqb}
use Rattle.model.specs.Search.{some?}
use Rattle.model.specs.Buffers.{target_in}
use Rattle.model.specs.Plans.{seal_target, known, record_fits, guard, seal_plan}
use Rattle.records.specs.declared.Session.{Session}
use Rattle.records.specs.declared.Plan.TheVariants.{CommitReads, BeginPromotion}
use Rattle.model.proofs.Tools.{clash}
use Rattle.refusals.specs.Pieces.{tested}
use Rattle.refusals.proofs.Ways.{whole, in_phase_1}

-- a seal with a written cell, and with none
seal_some : (o : Option ℕ) → some? o ≡ true → BeginPromotion ≡ seal_target o
unfolding seal_target
seal_some none h = absurd (clash false h refl)
seal_some (some c) h = refl

seal_none : (o : Option ℕ) → some? o ≡ false → CommitReads ≡ seal_target o
unfolding seal_target
seal_none none h = refl
seal_none (some c) h = absurd (clash true refl h)

module _ (n : ℕ) (log : List ℕ) (x : Session) where
  -- a running session, whose tests pass
  module _ (z : 0 ≡ tested (record_fits n log x) (eqb x.phase 1)) where
    -- b is whether a cell is written
    module _ (b : Bool) (w : b ≡ some? (target_in log x.count 0)) where
      pub seal_writes : b ≡ true → BeginPromotion ≡ seal_plan n log x
      unfolding guard known seal_plan
      seal_writes h = simp (whole n log x z, in_phase_1 n log x z) (seal_some _ (sym w ∙ h))

      pub seal_reads : b ≡ false → CommitReads ≡ seal_plan n log x
      unfolding guard known seal_plan
      seal_reads h = simp (whole n log x z, in_phase_1 n log x z) (seal_none _ (sym w ∙ h))
