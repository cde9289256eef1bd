-- Before round i the first i locks of the change are changed, and no other is.
use Rattle.std.proofs.Common.{◌≡◌}
use Rattle.run_changes.specs.Run.{swept}
use Rattle.lock_run.proofs.sweep.Given as goal

abbrev pub invariant-loop-i : goal.invariant-loop-i
invariant-loop-i l = l.locks ≡ swept l.logs l.change l.i l.initial.locks
