-- The loop keeps that the test holds of none so far.
use Rattle.look_ups.specs.First.{NoneOf}
use Rattle.look_ups.proofs.first.Given as goal

abbrev pub invariant-loop-k : goal.invariant-loop-k
invariant-loop-k g l = NoneOf (goal.F-post g l.test) l.k
