-- The call is refused by its tests, or its reads come to what the model says.
use Rattle.std.proofs.Common.{arith, rules}
use Rattle.contracts.specs.Lent.{buffers_of}
use Rattle.session_log.proofs.Logs.{log_fits}
use Rattle.many_reads.proofs.Whole.{refused_many, passed, can_read, few_values, few_entries, runs_on, each, can_roll, rolls_back}
use Rattle.many_reads.proofs.read_many.Goals as goal

pub returns-in-Err : goal.returns-in-Err
returns-in-Err c =
    let a = c.args in
    let B = buffers_of a.values.now a.classes.now a.readers.now a.claimants.now a.exclusives.now a.logs.now in
    refused_many B _ _ _ _ _ c.of-lengths.ensures _ c.in-Err.ensures _ c.refused.ensures

pub slice_bounds-log-end : goal.slice_bounds-log-end
slice_bounds-log-end c =
    let a = c.args in
    let B = buffers_of a.values.now a.classes.now a.readers.now a.claimants.now a.exclusives.now a.logs.now in
    let p = passed B _ _ _ _ _ c.of-lengths.ensures c.in_default.ensures in
    let z = p.admitted in
    log_fits _ z.low _ z.lengths.logs

pub read_cells-reads-requires : goal.read_cells-reads-requires
read_cells-reads-requires c =
    let a = c.args in
    let B = buffers_of a.values.now a.classes.now a.readers.now a.claimants.now a.exclusives.now a.logs.now in
    let p = passed B _ _ _ _ _ c.of-lengths.ensures c.in_default.ensures in
    can_read B _ _ _ _ p

pub overflow_cast-obtained : goal.overflow_cast-obtained
overflow_cast-obtained c =
    let a = c.args in
    let B = buffers_of a.values.now a.classes.now a.readers.now a.claimants.now a.exclusives.now a.logs.now in
    let p = passed B _ _ _ _ _ c.of-lengths.ensures c.in_default.ensures in
    let f = few_values B _ _ _ _ p _ _ _ _ c.read_cells-reads.ensures in
    omega arith

pub overflow_cast-entries : goal.overflow_cast-entries
overflow_cast-entries c =
    let a = c.args in
    let B = buffers_of a.values.now a.classes.now a.readers.now a.claimants.now a.exclusives.now a.logs.now in
    let p = passed B _ _ _ _ _ c.of-lengths.ensures c.in_default.ensures in
    let f = few_entries B _ _ _ _ p _ _ _ _ c.read_cells-reads.ensures in
    omega arith

pub returns-then-not-claimed : goal.returns-then-not-claimed
returns-then-not-claimed c =
    let a = c.args in
    let B = buffers_of a.values.now a.classes.now a.readers.now a.claimants.now a.exclusives.now a.logs.now in
    let p = passed B _ _ _ _ _ c.of-lengths.ensures c.in_default.ensures in
    runs_on B _ _ _ _ p _ _ _ _ c.read_cells-reads.ensures _ c.number-number.ensures _ c.met_claim-claimed.ensures _ c.if-not-claimed.true c.with_entries.ensures

pub invariant_of-locks : goal.invariant_of-locks
invariant_of-locks c =
    let a = c.args in
    let B = buffers_of a.values.now a.classes.now a.readers.now a.claimants.now a.exclusives.now a.logs.now in
    let p = passed B _ _ _ _ _ c.of-lengths.ensures c.in_default.ensures in
    let e = each B _ _ _ _ p _ _ _ _ c.read_cells-reads.ensures in
    record { claimant_each = e.0; exclusive_each = e.1 }

pub roll_back-requires : goal.roll_back-requires
roll_back-requires c =
    let a = c.args in
    let B = buffers_of a.values.now a.classes.now a.readers.now a.claimants.now a.exclusives.now a.logs.now in
    let p = passed B _ _ _ _ _ c.of-lengths.ensures c.in_default.ensures in
    can_roll B _ _ _ _ p _ _ _ _ c.read_cells-reads.ensures

pub returns : goal.returns
returns c =
    let a = c.args in
    let B = buffers_of a.values.now a.classes.now a.readers.now a.claimants.now a.exclusives.now a.logs.now in
    let p = passed B _ _ _ _ _ c.of-lengths.ensures c.in_default.ensures in
    let h = rolls_back B _ _ _ _ p _ _ _ _ c.read_cells-reads.ensures _ c.number-number.ensures _ c.met_claim-claimed.ensures _ c.if-not-claimed.false _ c.roll_back.ensures.rolled_back c.idled.ensures in
    search (rules, h)
