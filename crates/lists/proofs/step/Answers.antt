-- `lists::step` meets its contract: 7 and 1 are the model's; past them the turn of any call is, with the lock of the cell that it may need, the change of the locks, and the record put back.
use Rattle.std.proofs.Common.{refl, ◌∙◌, rules}
use Rattle.model.proofs.Tables.{goes_fits}
use Rattle.refusals.proofs.Admission.{plan_refused, refuses}
use Rattle.contracts.specs.Lent.{buffers_of}
use Rattle.turns.proofs.Forms.{admitted_by, even, log_fits, can_carry, replies}
use Rattle.lists.proofs.Laws.{any_planned, of_sixteen}
use Rattle.lists.proofs.step.Goals as goal

pub returns-in-Err : goal.returns-in-Err
returns-in-Err c =
    λ G g.
    let a = c.args in
    let B = buffers_of a.values.now a.classes.now a.readers.now a.claimants.now a.exclusives.now a.logs.now in
    rw c.from.ensures
    (refuses a.call (record { lent = B; limits = G; sessions = a.sessions }) _
    (plan_refused B _ c.in-Err.refusal (rw c.of-lengths.ensures at c.in-Err.ensures) a.call c.session-session.ensures
    (record { lent = B; limits = G; sessions = a.sessions }) (goes_fits a.call G g) refl))

pub of_session-requires : goal.of_session-requires
of_session-requires c =
    let a = c.args in
    let B = buffers_of a.values.now a.classes.now a.readers.now a.claimants.now a.exclusives.now a.logs.now in
    let z = admitted_by B _ _ c.of-lengths.ensures c.in_default.ensures in
    (z.low, z.lengths.logs)

pub cell_for-cell-requires : goal.cell_for-cell-requires
cell_for-cell-requires c =
    let a = c.args in
    let B = buffers_of a.values.now a.classes.now a.readers.now a.claimants.now a.exclusives.now a.logs.now in
    log_fits B _ (admitted_by B _ _ c.of-lengths.ensures c.in_default.ensures) _ c.of_session.ensures

pub any-t-requires : goal.any-t-requires
any-t-requires c =
    let a = c.args in
    let B = buffers_of a.values.now a.classes.now a.readers.now a.claimants.now a.exclusives.now a.logs.now in
    let z = admitted_by B _ _ c.of-lengths.ensures c.in_default.ensures in
    (z.low, z.lengths.logs, z.lengths.few, z.lengths.classes, c.session-session.ensures)

pub of_session-log-requires : goal.of_session-log-requires
of_session-log-requires c =
    let a = c.args in
    let B = buffers_of a.values.now a.classes.now a.readers.now a.claimants.now a.exclusives.now a.logs.now in
    let z = admitted_by B _ _ c.of-lengths.ensures c.in_default.ensures in
    (z.low, c.any-t.auto.logs ∙ z.lengths.logs)

pub invariant_of-locks : goal.invariant_of-locks
invariant_of-locks c =
    let a = c.args in
    let B = buffers_of a.values.now a.classes.now a.readers.now a.claimants.now a.exclusives.now a.logs.now in
    let e = even B _ (admitted_by B _ _ c.of-lengths.ensures c.in_default.ensures) in
    record { claimant_each = e.0; exclusive_each = e.1 }

pub apply-requires : goal.apply-requires
apply-requires c =
    let a = c.args in
    let B = buffers_of a.values.now a.classes.now a.readers.now a.claimants.now a.exclusives.now a.logs.now in
    can_carry a.call B _ _ c.session-session.ensures (admitted_by B _ _ c.of-lengths.ensures c.in_default.ensures) _
    (any_planned _ _ _ _ _ _ B.locks _ _ c.of_session.ensures c.cell_for-cell.ensures c.at-l.ensures) c.any-t.result _ _ c.any-t.ensures _ c.of_session-log.ensures

pub returns : goal.returns
returns c =
    let a = c.args in
    let B = buffers_of a.values.now a.classes.now a.readers.now a.claimants.now a.exclusives.now a.logs.now in
    let z = admitted_by B _ _ c.of-lengths.ensures c.in_default.ensures in
    let h =
    of_sixteen a.call B _ _ _ c.session-session.ensures _ c.record_of-x.ensures c.any-t.result
    (replies a.call B _ _ c.session-session.ensures z _
    (any_planned _ _ _ _ _ _ B.locks _ _ c.of_session.ensures c.cell_for-cell.ensures c.at-l.ensures) c.any-t.result _ _ c.any-t.ensures _ c.of_session-log.ensures _
    c.apply.ensures.carried _ refl)
    _ c.put_back.ensures in
    search (rules, h)
