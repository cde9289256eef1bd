-- The loop keeps the lowest two cells of the entries so far.
use Rattle.std.proofs.Common.{◌-◌, ◌≤◌}
use Rattle.session_log.specs.Slots.{LowestTwo}
use Rattle.targets.proofs.lowest_two.Given as goal

abbrev pub invariant-loop-i : goal.invariant-loop-i
invariant-loop-i l = (l.i ≤ l.count) × LowestTwo l.log l.n l.from l.i l.best.low l.best.high

abbrev pub decreases-loop-i : goal.decreases-loop-i
decreases-loop-i l = l.count - l.i
