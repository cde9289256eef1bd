-- The new entry's cell is in the set.
use Rattle.std.proofs.Common.{refl, add-one}
use Rattle.cell_reads.proofs.Marks.{covers_entered}
use Rattle.cell_reads.proofs.Reads.enter.Goals as goal

pub returns-clause-entered : goal.returns-clause-entered
returns-clause-entered c =
    let r = c.requires in (
      refl,
      rw c.with_reader.ensures,
      c.append.ensures,
      add-one _,
      rw c.append.ensures (covers_entered _ _ _ _ _ r.0.1 r.3 r.1 r.0.0.words),
    )
