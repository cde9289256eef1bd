-- The loop keeps what the reads from the first on come to, as what those that are left come to on what was left.
use Rattle.std.proofs.Common.{◌≡◌}
use Rattle.cell_reads.specs.Cells.{ReadsFit, SameReads, read_cells}
use Rattle.cell_reads.proofs.Ways.{left}
use Rattle.cell_reads.proofs.read_cells.Given as goal

abbrev pub invariant-loop-i : goal.invariant-loop-i
invariant-loop-i l =
    let a = l.initial.reads in
    SameReads a l.reads × ReadsFit l.reads
    × (read_cells a.values.now a.claimants.now a.session 0 l.cells l.initial.target a.readers.now a.log.now a.entries ≡ left l.reads l.cells l.target l.i)
