-- The loop keeps which cells are marked, and what the entries so far leave of any readers of which the unpublished ones before left those at its start.
use Rattle.std.proofs.Common.{◌≡◌, ℕ, List, length}
use Rattle.sweeps.specs.Sweeps.{DroppedSoFar}
use Rattle.sweeps.proofs.Sweeps.{Marks}
use Rattle.sweeps.proofs.drop_reads.Given as goal

abbrev pub invariant-loop-i : goal.invariant-loop-i
invariant-loop-i l =
    ((R : List ℕ) → length l.initial.readers ≡ length R → DroppedSoFar l.log l.count l.first l.session R l.initial.readers → DroppedSoFar l.log l.count l.i l.session R l.readers)
    × Marks l.log l.i l.written
