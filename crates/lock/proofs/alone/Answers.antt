-- The count of the set with the own bit put in is one exactly where no other session reads.
use Rattle.std.proofs.Common.{ℕ, eqb, ap, ◌∙◌}
use Rattle.std.specs.Int.Count.{ones}
use Rattle.model.proofs.Sets.{alone_count}
use Rattle.lock.proofs.alone.Goals as goal

pub returns : goal.returns
returns c = ap (λ (x : ℕ). eqb (ones x) 1) c.with_reader.ensures ∙ alone_count _ _
