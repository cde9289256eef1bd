-- The loop keeps that the answer is that of the cells not yet seen.
use Rattle.std.proofs.Common.{drop, ◌≡◌}
use Rattle.model.specs.Buffers.{all_fit}
use Rattle.caps.proofs.all_fit.Given as goal

abbrev pub invariant-loop-i : goal.invariant-loop-i
invariant-loop-i l = all_fit l.caps (drop l.i l.values) (drop l.i l.classes) ≡ all_fit l.caps l.values l.classes
