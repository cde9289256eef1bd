-- Each return is the turn of its plan.
use Rattle.std.proofs.Common.{refl, sym, ◌∙◌}
use Rattle.refusals.proofs.Ways.{begin_starts, begin_refused}
use Rattle.refusals.proofs.Turned.{turn_refused}
use Rattle.calls.proofs.Turning.{turn_started}
use Rattle.calls.proofs.take_begin.Goals as goal

pub returns-then-open : goal.returns-then-open
returns-then-open c = λ vs. turn_refused vs _ _ _ _ _ (sym (begin_refused _ _ _ c.if-open.true _ c.unfit.ensures)) (c.keeps.ensures ∙ rw c.from.ensures refl)

pub returns : goal.returns
returns c = λ vs. turn_started vs _ _ _ _ _ (sym (begin_starts _ _ _ c.if-open.false)) c.begun.ensures c.keeps-2.ensures
