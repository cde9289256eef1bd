-- The loop keeps that no entry so far publishes, and what the entries so far leave of the readers.
use Rattle.sweeps.specs.Sweeps.{NonePublished, DroppedSoFar}
use Rattle.sweeps.proofs.drop_unpublished.Given as goal

abbrev pub invariant-loop-i : goal.invariant-loop-i
invariant-loop-i l = NonePublished l.log l.i × DroppedSoFar l.log l.count l.i l.session l.initial.readers l.readers
