-- The cell of a call that is admitted.
use Rattle.run_turns.proofs.OnRun.{low, words, log_fits, looks_nowhere, looks}
use Rattle.run_turns.proofs.look_up.Goals as goal

pub returns-in-Err : goal.returns-in-Err
returns-in-Err c = looks_nowhere _ _ _ _ _ _ _ c.lengths_on-lengths.ensures _ c.session-session.ensures _ c.in-Err.ensures

pub of_session-requires : goal.of_session-requires
of_session-requires c =
    let f = c.lengths_on-lengths.ensures in (low _ _ _ c.args.logs.now _ f _ c.in_default.ensures, words _ _ _ _ _ f _ c.in_default.ensures)

pub cell_for-requires : goal.cell_for-requires
cell_for-requires c = log_fits _ _ _ c.args.logs.now _ c.lengths_on-lengths.ensures _ c.in_default.ensures _ c.of_session.ensures

pub returns : goal.returns
returns c =
    looks _ _ _ _ _ c.args.logs.now _ c.lengths_on-lengths.ensures _ c.session-session.ensures c.in_default.ensures
    _ c.of_session.ensures _ c.record_of-x.ensures _ c.cell_for.ensures
