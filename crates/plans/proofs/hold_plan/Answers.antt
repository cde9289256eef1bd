-- Each return is a way through `hold_plan`: the tests' number, the cell outside, known, or new.
use Rattle.std.proofs.Common.{sym, ◌∙◌, arith}
use Rattle.model.specs.Plans.{hold_plan}
use Rattle.session_log.proofs.Targets.{slot_some}
use Rattle.refusals.proofs.Ways.{run_refused, few, room, inside, outside}
use Rattle.plans.proofs.Ways.{hold_known, hold_new}
use Rattle.plans.proofs.hold_plan.Goals as goal

pub returns-in-Err : goal.returns-in-Err
unfolding hold_plan
returns-in-Err c = c.from.ensures ∙ run_refused _ _ _ _ c.in-Err.ensures _

pub returns-then-n-cell : goal.returns-then-n-cell
unfolding hold_plan
returns-then-n-cell c = c.from-then-n-cell.ensures ∙ outside _ _ _ c.in_default.ensures _ _ c.if-n-cell.true

pub locate-requires : goal.locate-requires
locate-requires c = room _ _ _ c.in_default.ensures c.requires.0

pub current-requires : goal.current-requires
current-requires c = inside _ _ _ c.in_default.ensures c.requires.0 _ (slot_some _ _ _ (sym c.in-Some.ensures)).0

pub overflow_cast-result : goal.overflow_cast-result
overflow_cast-result c =
    let l = (slot_some _ _ _ (sym c.in-Some.ensures)).0 in
    let w = few _ _ _ c.in_default.ensures in
    omega arith

pub returns-in-Some : goal.returns-in-Some
returns-in-Some c = hold_known _ _ _ c.in_default.ensures _ _ c.if-n-cell.false _ c.in-Some.ensures _ c.current.ensures

pub returns-in-None : goal.returns-in-None
returns-in-None c = hold_new _ _ _ c.in_default.ensures _ _ c.if-n-cell.false c.in-None.ensures _ c.new_cell.ensures
