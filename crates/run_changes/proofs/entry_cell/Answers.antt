-- `run_changes::entry_cell` meets its contract: the slice that it lends is the session's log.
use Rattle.std.proofs.Common.{arith, ◌∙◌}
use Rattle.session_log.proofs.Logs.{log_long}
use Rattle.run_changes.proofs.entry_cell.Goals as goal

pub cell_at-requires : goal.cell_at-requires
cell_at-requires c = omega (arith, log_long _ _ c.requires.2 c.requires.0 _ c.of_session.ensures, c.requires.1)

pub returns : goal.returns
returns c = c.cell_at.ensures ∙ rw c.of_session.ensures
