-- The loop keeps that the cells of the entries so far are in the set.
use Rattle.cell_reads.specs.Cells.{Covers}
use Rattle.cell_reads.proofs.cells_of.Given as goal

abbrev pub invariant-loop-i : goal.invariant-loop-i
invariant-loop-i l = Covers l.entered l.log l.i
