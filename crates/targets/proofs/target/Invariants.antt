-- The loop keeps that the target from the present start is the target from the first.
use Rattle.std.proofs.Common.{◌-◌, ◌≡◌}
use Rattle.session_log.specs.Slots.{target_slot}
use Rattle.targets.proofs.target.Given as goal

abbrev pub invariant-loop-cell : goal.invariant-loop-cell
invariant-loop-cell l = target_slot l.log l.count l.from ≡ target_slot l.log l.count l.start

abbrev pub decreases-loop-cell : goal.decreases-loop-cell
decreases-loop-cell l = l.n - l.start
