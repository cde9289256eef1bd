-- The loop keeps the lowest cell of the entries so far.
use Rattle.std.proofs.Common.{◌≡◌}
use Rattle.session_log.specs.Slots.{lowest_publishing}
use Rattle.targets.proofs.lowest_publishing.Given as goal

abbrev pub invariant-loop-i : goal.invariant-loop-i
invariant-loop-i l = l.best ≡ lowest_publishing l.log l.n l.from l.i
