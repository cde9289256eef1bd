-- Entries lie in the log, the one found too.
use Rattle.std.proofs.Common.{sym, arith}
use Rattle.session_log.proofs.Logs.{log_long}
use Rattle.session_log.proofs.Targets.{slot_some}
use Rattle.run_changes.proofs.unpublished_cell.Goals as goal

pub cell_at-cell-requires : goal.cell_at-cell-requires
cell_at-cell-requires c = omega (arith, log_long _ _ c.requires.3 c.requires.0 _ c.of_session-log.ensures, c.requires.1, c.requires.2)

pub find-requires : goal.find-requires
find-requires c = omega (arith, log_long _ _ c.requires.3 c.requires.0 _ c.of_session-log.ensures, c.requires.1)

pub publishes-requires : goal.publishes-requires
publishes-requires c =
    omega (
      arith,
      log_long _ _ c.requires.3 c.requires.0 _ c.of_session-log.ensures,
      (slot_some c.of_session-log.result.now c.args.m c.cell_at-cell.result (sym c.in-Some.ensures)).0,
      c.requires.1,
    )
