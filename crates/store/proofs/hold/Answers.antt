-- 7 and 1 are the model's; past them the turn is, with the lock looked up for it, and the change of the locks.
use Rattle.std.proofs.Common.{refl, ◌∙◌, rules}
use Rattle.contracts.specs.Lent.{buffers_of}
use Rattle.model.specs.Plans.{plan}
use Rattle.records.specs.declared.Call.TheVariants.{Hold}
use Rattle.turns.proofs.Forms.{admitted_by, even, log_fits, hold_planned, can_carry, replies, turned_down}
use Rattle.store.proofs.hold.Goals as goal

pub returns-in-Err : goal.returns-in-Err
returns-in-Err c =
    let a = c.args in
    let B = buffers_of a.values.now a.classes.now a.readers.now a.claimants.now a.exclusives.now a.logs.now in
    turned_down B _ _ c.of-lengths.ensures _ c.in-Err.ensures (Hold _ _) refl _ _ c.refused.ensures

pub of_session-requires : goal.of_session-requires
of_session-requires c =
    let a = c.args in
    let B = buffers_of a.values.now a.classes.now a.readers.now a.claimants.now a.exclusives.now a.logs.now in
    let z = admitted_by B _ _ c.of-lengths.ensures c.in_default.ensures in
    (z.low, z.lengths.logs)

pub hold_plan-p-requires : goal.hold_plan-p-requires
hold_plan-p-requires c =
    let a = c.args in
    let B = buffers_of a.values.now a.classes.now a.readers.now a.claimants.now a.exclusives.now a.logs.now in
    let z = admitted_by B _ _ c.of-lengths.ensures c.in_default.ensures in
    log_fits _ _ z _ c.of_session.ensures

pub hold-t-requires : goal.hold-t-requires
hold-t-requires c =
    let a = c.args in
    let B = buffers_of a.values.now a.classes.now a.readers.now a.claimants.now a.exclusives.now a.logs.now in
    let z = admitted_by B _ _ c.of-lengths.ensures c.in_default.ensures in
    (z.low, z.lengths.logs, (rw c.of_session.ensures at c.hold_plan-p.ensures))

pub of_session-log-requires : goal.of_session-log-requires
of_session-log-requires c =
    let a = c.args in
    let B = buffers_of a.values.now a.classes.now a.readers.now a.claimants.now a.exclusives.now a.logs.now in
    let z = admitted_by B _ _ c.of-lengths.ensures c.in_default.ensures in
    (z.low, c.hold-t.auto.logs ∙ z.lengths.logs)

pub carry_out-requires : goal.carry_out-requires
unfolding plan
carry_out-requires c =
    let a = c.args in
    let B = buffers_of a.values.now a.classes.now a.readers.now a.claimants.now a.exclusives.now a.logs.now in
    let z = admitted_by B _ _ c.of-lengths.ensures c.in_default.ensures in
    let d = hold_planned _ _ _ _ B.locks _ _ (rw c.of_session.ensures at c.hold_plan-p.ensures) c.lock_for-l.ensures in
    (even _ _ z, can_carry (Hold _ _) B _ _ refl z _ d _ _ _ c.hold-t.ensures _ c.of_session-log.ensures)

pub returns : goal.returns
unfolding plan
returns c =
    let a = c.args in
    let B = buffers_of a.values.now a.classes.now a.readers.now a.claimants.now a.exclusives.now a.logs.now in
    let z = admitted_by B _ _ c.of-lengths.ensures c.in_default.ensures in
    let d = hold_planned _ _ _ _ B.locks _ _ (rw c.of_session.ensures at c.hold_plan-p.ensures) c.lock_for-l.ensures in
    let h = replies (Hold _ _) B _ _ refl z _ d _ _ _ c.hold-t.ensures _ c.of_session-log.ensures _ c.carry_out.ensures.carried _ c.carry_out.ensures.reply in
    search (rules, h)
