-- An advance's cell is that of the entry that is due.
use Rattle.advance.proofs.Agree.{due_fits}
use Rattle.any_call.proofs.cell_for.Goals as goal

pub due_cell-requires : goal.due_cell-requires
due_cell-requires c = (c.requires.0, due_fits _ _ _ _ c.due_slot-due.ensures)
