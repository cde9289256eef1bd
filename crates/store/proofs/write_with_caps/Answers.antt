-- As `store::write`, under the limits that the table is; a table not of 16 caps is 7.
use Rattle.std.proofs.Common.{refl, ◌∙◌, rules}
use Rattle.contracts.specs.Lent.{buffers_of}
use Rattle.model.specs.Plans.{plan}
use Rattle.records.specs.declared.Call.TheVariants.{Write}
use Rattle.model.proofs.Tables.{has_caps_lem, has_not}
use Rattle.refusals.proofs.Admission.{table_refused}
use Rattle.turns.proofs.Forms.{admitted_by, even, log_fits, write_planned, can_carry_under, replies_under, turned_down_under}
use Rattle.store.proofs.write_with_caps.Goals as goal

pub returns-then-caps-ne16 : goal.returns-then-caps-ne16
returns-then-caps-ne16 c =
    let a = c.args in
    let B = buffers_of a.values.now a.classes.now a.readers.now a.claimants.now a.exclusives.now a.logs.now in
    rw c.refused.ensures
    (table_refused (record { caps = a.caps.now }) (Write _ _ a.value) B _ (has_not a.caps.now c.if-caps-ne16.true))

pub returns-in-Err : goal.returns-in-Err
returns-in-Err c =
    let a = c.args in
    let B = buffers_of a.values.now a.classes.now a.readers.now a.claimants.now a.exclusives.now a.logs.now in
    turned_down_under B _ _ c.of-lengths.ensures _ c.in-Err.ensures (Write _ _ a.value) refl _ _ c.refused-in-Err.ensures (record { caps = a.caps.now }) (has_caps_lem a.caps.now c.if-caps-ne16.false)

pub of_session-requires : goal.of_session-requires
of_session-requires c =
    let a = c.args in
    let B = buffers_of a.values.now a.classes.now a.readers.now a.claimants.now a.exclusives.now a.logs.now in
    let z = admitted_by B _ _ c.of-lengths.ensures c.in_default.ensures in
    (z.low, z.lengths.logs)

pub write_plan_by-p-requires : goal.write_plan_by-p-requires
write_plan_by-p-requires c =
    let a = c.args in
    let B = buffers_of a.values.now a.classes.now a.readers.now a.claimants.now a.exclusives.now a.logs.now in
    let z = admitted_by B _ _ c.of-lengths.ensures c.in_default.ensures in
    (c.if-caps-ne16.false, (log_fits _ _ z _ c.of_session.ensures).0, rw z.lengths.classes z.lengths.few)

pub write-t-requires : goal.write-t-requires
write-t-requires c =
    let a = c.args in
    let B = buffers_of a.values.now a.classes.now a.readers.now a.claimants.now a.exclusives.now a.logs.now in
    let z = admitted_by B _ _ c.of-lengths.ensures c.in_default.ensures in
    (z.low, z.lengths.logs, record { caps = a.caps.now; classes = a.classes.now; is = (rw (c.of_session.ensures, z.lengths.classes) at c.write_plan_by-p.ensures) })

pub of_session-log-requires : goal.of_session-log-requires
of_session-log-requires c =
    let a = c.args in
    let B = buffers_of a.values.now a.classes.now a.readers.now a.claimants.now a.exclusives.now a.logs.now in
    let z = admitted_by B _ _ c.of-lengths.ensures c.in_default.ensures in
    (z.low, c.write-t.auto.logs ∙ z.lengths.logs)

pub carry_out-requires : goal.carry_out-requires
unfolding plan
carry_out-requires c =
    let a = c.args in
    let B = buffers_of a.values.now a.classes.now a.readers.now a.claimants.now a.exclusives.now a.logs.now in
    let z = admitted_by B _ _ c.of-lengths.ensures c.in_default.ensures in
    let p = rw (c.of_session.ensures, z.lengths.classes) at c.write_plan_by-p.ensures in
    let d = write_planned _ _ _ _ B.locks _ a.caps.now a.classes.now a.value _ p c.lock_for-l.ensures in
    let h = c.write-t.ensures a.caps.now a.classes.now p in
    (even _ _ z, can_carry_under (record { caps = a.caps.now }) (Write _ _ a.value) B _ _ refl z _ d _ _ _ h _ c.of_session-log.ensures)

pub returns : goal.returns
unfolding plan
returns c =
    let a = c.args in
    let B = buffers_of a.values.now a.classes.now a.readers.now a.claimants.now a.exclusives.now a.logs.now in
    let z = admitted_by B _ _ c.of-lengths.ensures c.in_default.ensures in
    let p = rw (c.of_session.ensures, z.lengths.classes) at c.write_plan_by-p.ensures in
    let d = write_planned _ _ _ _ B.locks _ a.caps.now a.classes.now a.value _ p c.lock_for-l.ensures in
    let h = c.write-t.ensures a.caps.now a.classes.now p in
    let h = replies_under (record { caps = a.caps.now }) (Write _ _ a.value) B _ _ refl z _ d _ _ _ h _ c.of_session-log.ensures (has_caps_lem a.caps.now c.if-caps-ne16.false) _ c.carry_out.ensures.carried _ c.carry_out.ensures.reply in
    search (rules, h)
