-- Each return is the turn of a way through `promote_plan`, and with 104 tells the others.
use Rattle.std.proofs.Common.{sym, ap}
use Rattle.records.specs.declared.Turn.{Turn}
use Rattle.refusals.proofs.Turned.{turn_rolled_back}
use Rattle.advance.proofs.Ways.{promote_loses, promote_waits, promote_acquires, tells_lost, tells_acquired, tells_others}
use Rattle.advance.proofs.Turning.{turn_waiting, turn_acquired}
use Rattle.advance.proofs.promote.Goals as goal

pub returns-then-loses : goal.returns-then-loses
returns-then-loses c = (
  λ vs log m. turn_rolled_back _ _ _ _ _ (sym (promote_loses _ _ _ _ c.loses.ensures c.if-loses.true)) c.rolled_back.ensures,
  tells_lost c.args.l _ _ (ap (λ (t : Turn). t.answer) c.rolled_back.ensures),
)

pub returns-then-waits : goal.returns-then-waits
returns-then-waits c = (
  λ vs log m.
      turn_waiting _ _ _ _ _ _
      (sym (promote_waits _ _ _ _ c.loses.ensures c.if-loses.false _ c.alone-waits.ensures c.if-waits.true _ c.others.ensures)),
  tells_others c.args.l _ c.requires.2 _ c.alone-waits.ensures c.if-waits.true _ c.others.ensures,
)

pub returns : goal.returns
returns c = (
  λ vs log m.
      turn_acquired _ _ _ _ _ _ m _ c.handle.ensures
      (sym (promote_acquires _ _ _ _ c.loses.ensures c.if-loses.false _ c.alone-waits.ensures c.if-waits.false)),
  tells_acquired c.args.l c.args.session,
)
