-- The loop keeps that the answer is that of the classes not yet seen.
use Rattle.std.proofs.Common.{drop, ◌≡◌}
use Rattle.model.specs.Load.{all_classed}
use Rattle.caps.proofs.all_classed.Given as goal

abbrev pub invariant-loop-class : goal.invariant-loop-class
invariant-loop-class l = all_classed (drop l.class-index l.classes) ≡ all_classed l.classes
