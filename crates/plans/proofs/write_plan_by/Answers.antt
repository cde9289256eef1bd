-- Each return is a way through `write_plan`: the tests' number, the cell outside, its class, or what is decided once the cap is known.
use Rattle.std.proofs.Common.{refl, ◌∙◌}
use Rattle.model.specs.Buffers.{cap}
use Rattle.model.specs.Plans.{write_plan}
use Rattle.refusals.proofs.Ways.{run_refused, few, outside}
use Rattle.plans.proofs.Ways.{write_odd, write_class}
use Rattle.plans.proofs.write_plan_by.Goals as goal

pub returns-in-Err : goal.returns-in-Err
unfolding write_plan
returns-in-Err c = c.from.ensures ∙ run_refused _ _ _ _ c.in-Err.ensures _

pub returns-then-n-c : goal.returns-then-n-c
unfolding write_plan
returns-then-n-c c = c.from-then-n-c.ensures ∙ outside _ _ _ c.in_default.ensures _ _ c.if-n-c.true

pub returns-then-class-gt15 : goal.returns-then-class-gt15
returns-then-class-gt15 c = c.from-then-class-gt15.ensures ∙ write_odd _ _ _ c.in_default.ensures _ _ _ _ _ c.if-n-c.false c.if-class-gt15.true

pub write_capped-requires : goal.write_capped-requires
write_capped-requires c = (c.requires.1, few _ _ _ c.in_default.ensures)

pub returns : goal.returns
unfolding cap
returns c = write_class _ _ _ c.in_default.ensures _ _ _ _ _ c.if-n-c.false c.if-class-gt15.false _ refl _ c.write_capped.ensures
