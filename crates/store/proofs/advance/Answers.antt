-- 7 and 1 are the model's; past them the turn at the entry that is due is, with the lock of its cell, and the change of the locks.
use Rattle.std.proofs.Common.{refl, rules}
use Rattle.contracts.specs.Lent.{buffers_of}
use Rattle.records.specs.declared.Call.TheVariants.{Advance}
use Rattle.advance.proofs.Agree.{due_fits}
use Rattle.turns.proofs.Forms.{admitted_by, even, log_fits, advance_planned, kept_carry, kept_replies, turned_down}
use Rattle.store.proofs.advance.Goals as goal

pub returns-in-Err : goal.returns-in-Err
returns-in-Err c =
    let a = c.args in
    let B = buffers_of a.values.now a.classes.now a.readers.now a.claimants.now a.exclusives.now a.logs.now in
    turned_down B _ _ c.of-lengths.ensures _ c.in-Err.ensures (Advance _) refl _ _ c.refused.ensures

pub of_session-log-requires : goal.of_session-log-requires
of_session-log-requires c =
    let a = c.args in
    let B = buffers_of a.values.now a.classes.now a.readers.now a.claimants.now a.exclusives.now a.logs.now in
    let z = admitted_by B _ _ c.of-lengths.ensures c.in_default.ensures in
    (z.low, z.lengths.logs)

pub due_slot-due-requires : goal.due_slot-due-requires
due_slot-due-requires c =
    let a = c.args in
    let B = buffers_of a.values.now a.classes.now a.readers.now a.claimants.now a.exclusives.now a.logs.now in
    let z = admitted_by B _ _ c.of-lengths.ensures c.in_default.ensures in
    log_fits _ _ z _ c.of_session-log.ensures

pub due_cell-cell-requires : goal.due_cell-cell-requires
due_cell-cell-requires c =
    let a = c.args in
    let B = buffers_of a.values.now a.classes.now a.readers.now a.claimants.now a.exclusives.now a.logs.now in
    let z = admitted_by B _ _ c.of-lengths.ensures c.in_default.ensures in
    ((log_fits _ _ z _ c.of_session-log.ensures).0, due_fits _ _ _ _ c.due_slot-due.ensures)

pub take_advance-t-requires : goal.take_advance-t-requires
take_advance-t-requires c =
    let a = c.args in
    let B = buffers_of a.values.now a.classes.now a.readers.now a.claimants.now a.exclusives.now a.logs.now in
    let z = admitted_by B _ _ c.of-lengths.ensures c.in_default.ensures in
    let w = log_fits _ _ z _ c.of_session-log.ensures in
    (w.0, w.1, z.low, c.due_slot-due.ensures)

pub carry_out-requires : goal.carry_out-requires
carry_out-requires c =
    let a = c.args in
    let B = buffers_of a.values.now a.classes.now a.readers.now a.claimants.now a.exclusives.now a.logs.now in
    let z = admitted_by B _ _ c.of-lengths.ensures c.in_default.ensures in
    let e = advance_planned _ _ _ _ _ B.locks _ _ _ c.due_slot-due.ensures c.due_cell-cell.ensures c.at-l.ensures in
    (even _ _ z, kept_carry (Advance _) B _ _ refl z _ c.of_session-log.ensures _ e _ _ c.take_advance-t.ensures)

pub returns : goal.returns
returns c =
    let a = c.args in
    let B = buffers_of a.values.now a.classes.now a.readers.now a.claimants.now a.exclusives.now a.logs.now in
    let z = admitted_by B _ _ c.of-lengths.ensures c.in_default.ensures in
    let e = advance_planned _ _ _ _ _ B.locks _ _ _ c.due_slot-due.ensures c.due_cell-cell.ensures c.at-l.ensures in
    let h = kept_replies (Advance _) B _ _ refl z _ c.of_session-log.ensures _ e _ _ c.take_advance-t.ensures _ c.carry_out.ensures.carried _ c.carry_out.ensures.reply in
    search (rules, h)
