-- The loop keeps that the answer is that of the caps not yet seen, after the last one seen.
use Rattle.std.proofs.Common.{drop, ◌≡◌}
use Rattle.model.specs.Buffers.{rise_from, passes}
use Rattle.caps.proofs.caps_pass.Given as goal

abbrev pub invariant-loop-cap : goal.invariant-loop-cap
invariant-loop-cap l = rise_from l.below (drop l.cap-index l.caps) ≡ passes l.caps
