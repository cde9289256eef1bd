-- 7 and 1 are the model's; past them the turn is, and the session is rolled back.
use Rattle.std.proofs.Common.{refl, rules}
use Rattle.contracts.specs.Lent.{buffers_of}
use Rattle.model.specs.Plans.{plan}
use Rattle.records.specs.declared.Call.TheVariants.{Abandon}
use Rattle.turns.proofs.Forms.{admitted_by, even, log_fits, kept_carry, kept_replies, turned_down}
use Rattle.store.proofs.abandon.Goals as goal

pub returns-in-Err : goal.returns-in-Err
returns-in-Err c =
    let a = c.args in
    let B = buffers_of a.values.now a.classes.now a.readers.now a.claimants.now a.exclusives.now a.logs.now in
    turned_down B _ _ c.of-lengths.ensures _ c.in-Err.ensures (Abandon _) refl _ _ c.refused.ensures

pub of_session-log-requires : goal.of_session-log-requires
of_session-log-requires c =
    let a = c.args in
    let B = buffers_of a.values.now a.classes.now a.readers.now a.claimants.now a.exclusives.now a.logs.now in
    let z = admitted_by B _ _ c.of-lengths.ensures c.in_default.ensures in
    (z.low, z.lengths.logs)

pub take_abandon-t-requires : goal.take_abandon-t-requires
take_abandon-t-requires c =
    let a = c.args in
    let B = buffers_of a.values.now a.classes.now a.readers.now a.claimants.now a.exclusives.now a.logs.now in
    let z = admitted_by B _ _ c.of-lengths.ensures c.in_default.ensures in
    log_fits _ _ z _ c.of_session-log.ensures

pub carry_out-requires : goal.carry_out-requires
unfolding plan
carry_out-requires c =
    let a = c.args in
    let B = buffers_of a.values.now a.classes.now a.readers.now a.claimants.now a.exclusives.now a.logs.now in
    let z = admitted_by B _ _ c.of-lengths.ensures c.in_default.ensures in
    (even _ _ z, kept_carry (Abandon _) B _ _ refl z _ c.of_session-log.ensures _ refl _ _ (c.take_abandon-t.ensures a.values.now))

pub returns : goal.returns
unfolding plan
returns c =
    let a = c.args in
    let B = buffers_of a.values.now a.classes.now a.readers.now a.claimants.now a.exclusives.now a.logs.now in
    let z = admitted_by B _ _ c.of-lengths.ensures c.in_default.ensures in
    let h = kept_replies (Abandon _) B _ _ refl z _ c.of_session-log.ensures _ refl _ _ (c.take_abandon-t.ensures a.values.now) _ c.carry_out.ensures.carried _ c.carry_out.ensures.reply in
    search (rules, h)
