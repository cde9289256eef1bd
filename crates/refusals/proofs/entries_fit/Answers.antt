-- Each return is a way through `entries_fit`.
use Rattle.refusals.proofs.Ways.{entries_idle, entries_phase, entries_many, entries_cells}
use Rattle.refusals.proofs.entries_fit.Goals as goal

pub returns-then-phase-eq0 : goal.returns-then-phase-eq0
returns-then-phase-eq0 c = entries_idle _ _ _ c.if-phase-eq0.true

pub returns-then-phase-gt4 : goal.returns-then-phase-gt4
returns-then-phase-gt4 c = entries_phase _ _ _ c.if-phase-gt4.true

pub returns-then-count-gt32 : goal.returns-then-count-gt32
returns-then-count-gt32 c = entries_many _ _ _ c.if-phase-eq0.false c.if-count-gt32.true

pub returns : goal.returns
returns c = entries_cells _ _ _ c.if-phase-eq0.false c.if-phase-gt4.false c.if-count-gt32.false _ c.all_below.ensures
