-- The count of the set with the own bit put in is one more than the others.
use Rattle.std.proofs.Common.{arith, ap, ◌∙◌}
use Rattle.std.specs.Int.Count.{ones}
use Rattle.model.proofs.Sets.{ones_join}
use Rattle.lock.proofs.others.Goals as goal

pub overflow_sub-result : goal.overflow_sub-result
overflow_sub-result c = omega (arith, ap ones c.with_reader.ensures ∙ ones_join _ _)

pub returns : goal.returns
returns c = omega (arith, ap ones c.with_reader.ensures ∙ ones_join _ _)
