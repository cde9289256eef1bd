-- There is no target, or there is one; then the test above its cell says whether another is left.
use Rattle.std.proofs.Common.{add-one, arith}
use Rattle.model.proofs.Laws.{below_is}
use Rattle.session_log.proofs.Targets.{target_inside}
use Rattle.targets.proofs.Told.{next_some}
use Rattle.targets.proofs.next_by_target.Goals as goal

pub cell_at-above-requires : goal.cell_at-above-requires
cell_at-above-requires c = omega (arith, target_inside _ _ _ c.in_ok-slot.ensures)

pub overflow_add-above : goal.overflow_add-above
overflow_add-above c = omega (arith, below_is _ _ _ c.requires.2 _ (target_inside _ _ _ c.in_ok-slot.ensures))

pub returns : goal.returns
returns c = next_some _ _ _ c.in_ok-slot.ensures (rw (c.cell_at-above.ensures, add-one) at c.any_publishes-more.ensures)
