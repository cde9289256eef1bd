-- A refusal, or 100.
use Rattle.plans.proofs.Shown.{peek_turned, peek_shown}
use Rattle.any_call.proofs.take_peek.Goals as goal

pub returns-in-Refuse : goal.returns-in-Refuse
returns-in-Refuse c = λ vs. rw c.keeps.ensures (peek_turned vs _ _ _ _ _ c.peek_plan.ensures _ c.in-Refuse.is)

pub returns-in_default : goal.returns-in_default
returns-in_default c = λ vs. rw c.keeps-in_default.ensures (peek_shown vs _ _ _ _ _ c.peek_plan.ensures c.in_default.not-Refuse)
