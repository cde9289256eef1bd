-- 7 and 1 are the model's; past them the turn is, and the session leaves the readers of what it did not write.
use Rattle.std.proofs.Common.{◌≡◌, refl}
use Rattle.locks.specs.Changes.{drop_of}
use Rattle.contracts.specs.Lent.{buffers_of}
use Rattle.model.specs.Plans.{plan}
use Rattle.records.specs.declared.Call.TheVariants.{Seal}
use Rattle.turns.proofs.Forms.{admitted_by, even, log_fits, seal_drops, kept_change, kept_carry, kept_replies, turned_down}
use Rattle.store.proofs.seal.Goals as goal

pub returns-in-Err : goal.returns-in-Err
returns-in-Err c =
    let a = c.args in
    let B = buffers_of a.values.now a.classes.now a.readers.now a.claimants.now a.exclusives.now a.logs.now in
    turned_down B _ _ c.of-lengths.ensures _ c.in-Err.ensures (Seal _) refl _ _ c.refused.ensures

pub of_session-log-requires : goal.of_session-log-requires
of_session-log-requires c =
    let a = c.args in
    let B = buffers_of a.values.now a.classes.now a.readers.now a.claimants.now a.exclusives.now a.logs.now in
    let z = admitted_by B _ _ c.of-lengths.ensures c.in_default.ensures in
    (z.low, z.lengths.logs)

pub take_seal-t-requires : goal.take_seal-t-requires
take_seal-t-requires c =
    let a = c.args in
    let B = buffers_of a.values.now a.classes.now a.readers.now a.claimants.now a.exclusives.now a.logs.now in
    let z = admitted_by B _ _ c.of-lengths.ensures c.in_default.ensures in
    log_fits _ _ z _ c.of_session-log.ensures

pub change_drop-requires : goal.change_drop-requires
unfolding plan
change_drop-requires c =
    let a = c.args in
    let B = buffers_of a.values.now a.classes.now a.readers.now a.claimants.now a.exclusives.now a.logs.now in
    let z = admitted_by B _ _ c.of-lengths.ensures c.in_default.ensures in
    (kept_carry (Seal _) B _ _ refl z _ c.of_session-log.ensures _ refl _ _ (c.take_seal-t.ensures a.values.now)).1

pub returns : goal.returns
unfolding plan
returns c =
    let a = c.args in
    let B = buffers_of a.values.now a.classes.now a.readers.now a.claimants.now a.exclusives.now a.logs.now in
    let z = admitted_by B _ _ c.of-lengths.ensures c.in_default.ensures in
    let k = kept_change (Seal _) B _ _ refl z _ c.of_session-log.ensures _ refl _ _ (c.take_seal-t.ensures a.values.now) in
    let d : drop_of c.take_seal-t.result.change ≡ c.take_seal-t.result.change = rw k (seal_drops _ _ _ _) in
    kept_replies (Seal _) B _ _ refl z _ c.of_session-log.ensures _ refl _ _ (c.take_seal-t.ensures a.values.now) _
    (rw d at (c.change_drop.ensures _ _ (even _ _ z).0 (even _ _ z).1)) _ c.from.ensures
