-- Each return is the turn of a way through `seal_plan`.
use Rattle.std.proofs.Common.{refl, sym, ◌∙◌}
use Rattle.model.specs.Plans.{seal_plan}
use Rattle.refusals.proofs.Ways.{run_refused, room}
use Rattle.calls.proofs.Ways.{seal_writes, seal_reads}
use Rattle.refusals.proofs.Turned.{turn_refused}
use Rattle.calls.proofs.Turning.{turn_sealed, turn_committed}
use Rattle.calls.proofs.take_seal.Goals as goal

pub returns-in-Err : goal.returns-in-Err
unfolding seal_plan
returns-in-Err c = λ vs. turn_refused vs _ _ _ _ _ (sym (run_refused _ _ _ _ c.in-Err.ensures _)) (c.keeps.ensures ∙ rw c.from.ensures refl)

pub any_publishes-publishes-requires : goal.any_publishes-publishes-requires
any_publishes-publishes-requires c = room _ _ _ c.in_default.ensures c.requires.0

pub returns-then-publishes : goal.returns-then-publishes
returns-then-publishes c =
    λ vs. turn_sealed vs _ _ _ _ (sym (seal_writes _ _ _ c.in_default.ensures _ c.any_publishes-publishes.ensures c.if-publishes.true)) c.sealed.ensures

pub returns-else-publishes : goal.returns-else-publishes
returns-else-publishes c =
    λ vs. turn_committed vs _ _ _ _ (sym (seal_reads _ _ _ c.in_default.ensures _ c.any_publishes-publishes.ensures c.if-publishes.false)) c.idled.ensures
