-- A refusal, or the turn at the entry that is due.
use Rattle.std.proofs.Common.{refl, ◌∙◌}
use Rattle.refusals.proofs.Turned.{turn_refused}
use Rattle.advance.proofs.Agree.{plan_refused, plan_due}
use Rattle.advance.proofs.Turning.{turn_at}
use Rattle.advance.proofs.take_advance.Goals as goal

pub returns-in-Err : goal.returns-in-Err
returns-in-Err c = turn_refused _ _ _ _ _ _ (plan_refused _ _ _ _ _ _ c.in-Err.is) (c.keeps.ensures ∙ rw c.from.ensures refl)

pub returns-in-Ok : goal.returns-in-Ok
returns-in-Ok c = c.take_entry.ensures ∙ turn_at _ _ _ _ _ (plan_due _ _ _ _ _ _ c.in-Ok.is)
