-- Each return is a way through `peek_plan`: the tests' number, the cell outside, not in the log, written, or merely read.
use Rattle.std.proofs.Common.{sym, ◌∙◌, arith}
use Rattle.model.specs.Plans.{peek_plan}
use Rattle.session_log.proofs.Targets.{slot_some}
use Rattle.refusals.proofs.Ways.{run_refused, few, room, inside, outside}
use Rattle.plans.proofs.Ways.{peek_new, peek_written, peek_read}
use Rattle.plans.proofs.peek_plan.Goals as goal

pub returns-in-Err : goal.returns-in-Err
unfolding peek_plan
returns-in-Err c = c.from.ensures ∙ run_refused _ _ _ _ c.in-Err.ensures _

pub returns-then-n-cell : goal.returns-then-n-cell
unfolding peek_plan
returns-then-n-cell c = c.from-then-n-cell.ensures ∙ outside _ _ _ c.in_default.ensures _ _ c.if-n-cell.true

pub locate-requires : goal.locate-requires
locate-requires c = room _ _ _ c.in_default.ensures c.requires.0

pub dirty-requires : goal.dirty-requires
dirty-requires c = inside _ _ _ c.in_default.ensures c.requires.0 _ (slot_some _ _ _ (sym c.in-Some.ensures)).0

pub returns-in_default-locate : goal.returns-in_default-locate
returns-in_default-locate c = c.from-in_default-locate.ensures ∙ peek_new _ _ _ c.in_default.ensures _ c.if-n-cell.false c.in_default-locate.ensures

pub overflow_cast-result : goal.overflow_cast-result
overflow_cast-result c =
    let l = (slot_some _ _ _ (sym c.in-Some.ensures)).0 in
    let w = few _ _ _ c.in_default.ensures in
    omega arith

pub returns-then-dirty : goal.returns-then-dirty
returns-then-dirty c = peek_written _ _ _ c.in_default.ensures _ c.if-n-cell.false _ c.in-Some.ensures _ c.dirty.ensures c.if-dirty.true

pub returns-else-dirty : goal.returns-else-dirty
returns-else-dirty c = peek_read _ _ _ c.in_default.ensures _ c.if-n-cell.false _ c.in-Some.ensures _ c.dirty.ensures c.if-dirty.false
