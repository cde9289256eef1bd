-- The or with the shifted one puts the cell into its word (Digits).
use Rattle.sweeps.proofs.Marks.{mark_store}
use Rattle.sweeps.proofs.CellSet.insert.Goals as goal

pub returns : goal.returns
returns c = rw (← c.self.view_is) (mark_store _ _)
