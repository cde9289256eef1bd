-- Refused by the tests, or 100 with what `empty` leaves, whichever records came.
use Rattle.std.proofs.Common.{refl}
use Rattle.std.proofs.lemmas.Result.{err_from_is_err_and}
use Rattle.contracts.specs.Lent.{store_of}
use Rattle.loads.proofs.SetUp.{set_refused, set_done}
use Rattle.set_up.proofs.prepare.Goals as goal

pub returns-in_err-judge_set_up : goal.returns-in_err-judge_set_up
returns-in_err-judge_set_up c ss =
    let a = c.args in
    let σ = store_of (record { caps = a.caps.now }) a.values.now a.classes.now a.readers.now a.claimants.now a.exclusives.now a.logs.now ss in
    let p = err_from_is_err_and c.from_residual.result c.from_residual.ensures.1 in
    rw (p.1, p.2) (set_refused σ c.in_err-judge_set_up.field-0.0 (rw c.of-lengths.ensures at c.in_err-judge_set_up.ensures))

pub returns : goal.returns
returns c ss =
    let a = c.args in
    let σ = store_of (record { caps = a.caps.now }) a.values.now a.classes.now a.readers.now a.claimants.now a.exclusives.now a.logs.now ss in
    let l = c.empty.ensures in
    set_done σ (rw c.of-lengths.ensures at c.in_ok-judge_set_up.ensures) _ _ _ _ _ l.0 l.1 l.2 l.3 refl
