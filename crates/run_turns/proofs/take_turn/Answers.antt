-- Refused by 7 or 1, or the turn of `any_call::any` put back.
use Rattle.run_turns.proofs.OnRun.{low, words, few, classed, turned_down, taken}
use Rattle.run_turns.proofs.take_turn.Goals as goal

pub returns-in-Err : goal.returns-in-Err
returns-in-Err c =
    let a = c.args in
    turned_down a.call a.values.now a.classes.now a.logs.now a.sessions a.locks a.l _ c.lengths_on-lengths.ensures _ c.session-session.ensures
    _ c.in-Err.ensures _ c.refused.ensures

pub any-t-requires : goal.any-t-requires
any-t-requires c =
    let a = c.args in let f = c.lengths_on-lengths.ensures in let z = c.in_default.ensures in
    (low _ _ a.locks a.logs.now _ f _ z, words _ _ a.locks _ _ f _ z, few _ _ a.locks a.logs.now _ f _ z, classed _ _ a.locks a.logs.now _ f _ z, c.session-session.ensures)

pub returns : goal.returns
returns c =
    let a = c.args in
    taken a.call a.values.now a.classes.now a.logs.now a.sessions a.locks a.l _ c.lengths_on-lengths.ensures _ c.session-session.ensures
    c.in_default.ensures _ c.record_of-x.ensures _ _ _ c.any-t.ensures _ c.taken.ensures
