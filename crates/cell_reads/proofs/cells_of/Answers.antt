-- The next entry's cell is put into the set.
use Rattle.cell_reads.proofs.Marks.{cell_low, inserted, covers_next}
use Rattle.cell_reads.proofs.cells_of.Goals as goal

pub loop-i-preserved : goal.loop-i-preserved
loop-i-preserved c =
    let e = c.cell_at.ensures in
    let w = inserted _ _ _ _ c.loop-i.invariant (cell_low _ _ _ _ _ c.requires.1 c.loop-i-test.true e) in
    rw c.insert.ensures (covers_next _ _ _ _ w.0 e w.1)
