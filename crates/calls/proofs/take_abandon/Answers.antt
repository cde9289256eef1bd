-- Each return is the turn of its plan.
use Rattle.std.proofs.Common.{refl, sym, ◌∙◌}
use Rattle.refusals.proofs.Ways.{guard_refuses, guard_passes}
use Rattle.refusals.proofs.Turned.{turn_refused}
use Rattle.calls.proofs.Turning.{turn_cancelled}
use Rattle.calls.proofs.take_abandon.Goals as goal

pub returns-in-Err : goal.returns-in-Err
returns-in-Err c = λ vs. turn_refused vs _ _ _ _ _ (sym (guard_refuses _ _ _ _ _ _ c.in-Err.ensures)) (c.keeps.ensures ∙ rw c.from.ensures refl)

pub returns : goal.returns
returns c = λ vs. turn_cancelled vs _ _ _ _ (sym (guard_passes _ _ _ _ _ c.in_default.ensures)) c.idled.ensures
