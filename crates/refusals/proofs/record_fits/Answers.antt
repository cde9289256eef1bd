-- Each return is a way through `record_fits`.
use Rattle.std.proofs.Common.{arith}
use Rattle.refusals.proofs.Ways.{listed, record_odd, record_early, record_late}
use Rattle.refusals.proofs.record_fits.Goals as goal

pub returns-then-not-entries_fit : goal.returns-then-not-entries_fit
returns-then-not-entries_fit c = record_odd _ _ _ _ c.entries_fit.ensures c.if-not-entries_fit.true

pub returns-then-phase-lt2 : goal.returns-then-phase-lt2
returns-then-phase-lt2 c = record_early _ _ _ _ c.entries_fit.ensures c.if-not-entries_fit.false c.if-phase-lt2.true

pub any_publishes-requires : goal.any_publishes-requires
any_publishes-requires c =
    let w = listed _ _ _ _ c.entries_fit.ensures c.if-not-entries_fit.false c.if-phase-lt2.false in
    omega (arith, w.count)

pub returns : goal.returns
returns c = record_late _ _ _ _ c.entries_fit.ensures c.if-not-entries_fit.false c.if-phase-lt2.false _ c.any_publishes.ensures
