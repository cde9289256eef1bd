-- 7 and 1 are the model's; past them the turn is, and no lock changes.
use Rattle.std.proofs.Common.{refl, ◌∙◌}
use Rattle.contracts.specs.Lent.{buffers_of}
use Rattle.model.specs.Plans.{plan}
use Rattle.records.specs.declared.Call.TheVariants.{Begin}
use Rattle.turns.proofs.Guards.{begin_keeps}
use Rattle.turns.proofs.Forms.{admitted_by, log_fits, no_change, kept_change, kept_replies, turned_down}
use Rattle.store.proofs.begin.Goals as goal

pub returns-in-Err : goal.returns-in-Err
returns-in-Err c =
    let a = c.args in
    let B = buffers_of a.values.now a.classes.now a.readers.now a.claimants.now a.exclusives.now a.logs.now in
    turned_down B _ _ c.of-lengths.ensures _ c.in-Err.ensures (Begin _) refl _ _ c.refused.ensures

pub of_session-log-requires : goal.of_session-log-requires
of_session-log-requires c =
    let a = c.args in
    let B = buffers_of a.values.now a.classes.now a.readers.now a.claimants.now a.exclusives.now a.logs.now in
    let z = admitted_by B _ _ c.of-lengths.ensures c.in_default.ensures in
    (z.low, z.lengths.logs)

pub take_begin-requires : goal.take_begin-requires
take_begin-requires c =
    let a = c.args in
    let B = buffers_of a.values.now a.classes.now a.readers.now a.claimants.now a.exclusives.now a.logs.now in
    let z = admitted_by B _ _ c.of-lengths.ensures c.in_default.ensures in
    log_fits _ _ z _ c.of_session-log.ensures

pub returns : goal.returns
unfolding plan
returns c =
    let a = c.args in
    let B = buffers_of a.values.now a.classes.now a.readers.now a.claimants.now a.exclusives.now a.logs.now in
    let z = admitted_by B _ _ c.of-lengths.ensures c.in_default.ensures in
    kept_replies (Begin _) B _ _ refl z _ c.of_session-log.ensures _ refl _ _ (c.take_begin.ensures a.values.now) _
    (no_change _ _ _ _ _ (kept_change (Begin _) B _ _ refl z _ c.of_session-log.ensures _ refl _ _ (c.take_begin.ensures a.values.now) ∙ begin_keeps _ _ _ _ _)) _ c.from.ensures
