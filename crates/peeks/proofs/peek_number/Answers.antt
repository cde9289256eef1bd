-- A refusal's number, or 100 where a word is handed back.
use Rattle.contracts.specs.Lent.{buffers_of}
use Rattle.plans.proofs.Peeks.{twin_refused, twin_done}
use Rattle.peeks.proofs.peek_number.Goals as goal

pub returns-in-Refuse : goal.returns-in-Refuse
returns-in-Refuse c =
    let a = c.args in
    twin_refused (buffers_of a.values.now a.classes.now a.readers.now a.claimants.now a.exclusives.now a.logs.now)
    _ _ _ _ c.peek_plan-p.ensures _ c.in-Refuse.is

pub returns-in_default : goal.returns-in_default
returns-in_default c =
    let a = c.args in
    twin_done (buffers_of a.values.now a.classes.now a.readers.now a.claimants.now a.exclusives.now a.logs.now)
    _ _ _ _ c.peek_plan-p.ensures c.in_default.not-Refuse
