-- Refused by 7 or 1, or what `peek_plan` decides.
use Rattle.std.proofs.Common.{sym, ◌∙◌}
use Rattle.session_log.proofs.Logs.{log_long}
use Rattle.refusals.proofs.Admission.{fitting, admits}
use Rattle.plans.proofs.Peeks.{peek_turned, peek_admitted}
use Rattle.plans.proofs.peek_plan_in.Goals as goal

pub returns-in-Err : goal.returns-in-Err
returns-in-Err c = rw c.from.ensures (peek_turned c.args.lengths c.args.logs.now c.args.x c.args.session c.args.cell c.in-Err.refusal c.in-Err.ensures)

pub of_session-log-requires : goal.of_session-log-requires
of_session-log-requires c = let z = admits _ _ c.in_default.ensures in (z.1, sym c.requires ∙ (fitting _ z.0).logs)

pub peek_plan-requires : goal.peek_plan-requires
peek_plan-requires c =
    let z = admits _ _ c.in_default.ensures in let f = fitting _ z.0 in
    (log_long _ _ (sym c.requires ∙ f.logs) z.1 _ c.of_session-log.ensures, f.few)

pub returns : goal.returns
returns c = peek_admitted _ _ _ _ _ c.in_default.ensures _ c.of_session-log.ensures _ c.peek_plan.ensures
