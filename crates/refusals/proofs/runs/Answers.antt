-- In phase 1 the tests are those of the entries.
use Rattle.refusals.proofs.Ways.{runs_many, runs_past, runs_whole}
use Rattle.refusals.proofs.runs.Goals as goal

pub returns-then-count-gt32 : goal.returns-then-count-gt32
returns-then-count-gt32 c = runs_many _ _ _ c.if-not-running.false c.if-count-gt32.true

pub returns-then-not-all_below_by_fours : goal.returns-then-not-all_below_by_fours
returns-then-not-all_below_by_fours c = runs_past _ _ _ c.if-not-running.false c.if-count-gt32.false _ c.all_below_by_fours.ensures c.if-not-all_below_by_fours.true

pub returns : goal.returns
returns c = runs_whole _ _ _ c.if-not-running.false c.if-count-gt32.false _ c.all_below_by_fours.ensures c.if-not-all_below_by_fours.false
