-- The loops keep that the test holds of none so far.
use Rattle.std.proofs.Common.{◌+◌, ◌*◌}
use Rattle.look_ups.specs.First.{NoneOf}
use Rattle.look_ups.proofs.first_by_fours.Given as goal

abbrev pub invariant-loop-i : goal.invariant-loop-i
invariant-loop-i g l = NoneOf (goal.F-post g l.test) (l.rest + 4 * l.i)

abbrev pub invariant-loop-j : goal.invariant-loop-j
invariant-loop-j g l = NoneOf (goal.F-post g l.test) (l.rest + 4 * l.i + l.j)
