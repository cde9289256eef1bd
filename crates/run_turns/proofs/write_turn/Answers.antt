-- Refused by 7 or 1, or the turn of `turns::write`, by what the table decides, put back.
use Rattle.std.proofs.Common.{arith}
use Rattle.run_turns.proofs.OnRun.{low, words, classed, log_fits}
use Rattle.run_turns.proofs.ByTable.{write_7, write_refuses, write_decided, writes}
use Rattle.run_turns.proofs.write_turn.Goals as goal

pub returns-then-caps-ne16 : goal.returns-then-caps-ne16
returns-then-caps-ne16 c =
    let a = c.args in
    write_7 a.caps.now a.values.now a.classes.now a.logs.now a.sessions a.locks a.l a.session a.cell a.value c.if-caps-ne16.true _ c.refused.ensures

pub returns-in-Err : goal.returns-in-Err
returns-in-Err c =
    let a = c.args in
    write_refuses a.caps.now a.values.now a.classes.now a.logs.now a.sessions a.locks a.l a.session a.cell a.value c.if-caps-ne16.false
    _ c.lengths_on-lengths.ensures _ c.in-Err.ensures _ c.refused-in-Err.ensures

pub of_session-log-requires : goal.of_session-log-requires
of_session-log-requires c =
    let a = c.args in let f = c.lengths_on-lengths.ensures in (low _ _ a.locks a.logs.now _ f _ c.in_default.ensures, words _ _ a.locks _ _ f _ c.in_default.ensures)

pub write_plan_by-p-requires : goal.write_plan_by-p-requires
write_plan_by-p-requires c =
    let a = c.args in let e = c.lengths_on-lengths.ensures in
    let f = log_fits _ _ a.locks a.logs.now _ e _ c.in_default.ensures _ c.of_session-log.ensures in
    let k = classed _ _ a.locks a.logs.now _ e _ c.in_default.ensures in
    (c.if-caps-ne16.false, f.0, omega (arith, f.1, k))

pub write-t-requires : goal.write-t-requires
write-t-requires c =
    let a = c.args in let f = c.lengths_on-lengths.ensures in (
      low _ _ a.locks a.logs.now _ f _ c.in_default.ensures,
      words _ _ a.locks _ _ f _ c.in_default.ensures,
      write_decided a.caps.now a.values.now a.classes.now a.logs.now a.sessions a.locks a.l a.session a.cell a.value c.if-caps-ne16.false
          _ f c.in_default.ensures _ c.record_of-x.ensures _ c.of_session-log.ensures _ c.write_plan_by-p.ensures,
    )

pub returns : goal.returns
returns c =
    let a = c.args in
    writes a.caps.now a.values.now a.classes.now a.logs.now a.sessions a.locks a.l a.session a.cell a.value c.if-caps-ne16.false
    _ c.lengths_on-lengths.ensures c.in_default.ensures _ c.record_of-x.ensures _ c.of_session-log.ensures _ c.write_plan_by-p.ensures
    _ _ c.write-t.ensures _ c.taken.ensures
