-- Refused by the tests, or 100 with every lock to be empty.
use Rattle.std.proofs.Common.{arith}
use Rattle.run_turns.proofs.SetUps.{set_up_refused, values_few, set_up_done}
use Rattle.run_turns.proofs.set_up_turn_by.Goals as goal

pub returns-in-Err : goal.returns-in-Err
returns-in-Err c =
    let a = c.args in
    set_up_refused (record { caps = a.caps.now }) a.values.now a.classes.now a.logs.now a.sessions a.locks _ c.lengths_on-lengths.ensures
    c.in-Err.refusal c.in-Err.ensures _ c.refused.ensures

pub overflow_cast-result : goal.overflow_cast-result
overflow_cast-result c =
    let a = c.args in
    omega (arith, values_few (record { caps = a.caps.now }) a.values.now a.classes.now a.logs.now a.sessions a.locks _ c.lengths_on-lengths.ensures c.in_default.ensures)

pub returns : goal.returns
returns c =
    let a = c.args in
    set_up_done (record { caps = a.caps.now }) a.values.now a.classes.now a.logs.now a.sessions a.locks _ c.lengths_on-lengths.ensures c.in_default.ensures
    _ _ c.clear_words.ensures c.all_idle.ensures
