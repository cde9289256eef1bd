-- The loop keeps the locks that the entries so far leave.
use Rattle.std.proofs.Common.{◌≡◌, length}
use Rattle.model.specs.Effects.{rolled_back}
use Rattle.lock.specs.Lent.{locks_in, SameSlices}
use Rattle.sweeps.proofs.roll_back.Given as goal

abbrev pub invariant-loop-i : goal.invariant-loop-i
invariant-loop-i l =
    SameSlices l.initial.locks l.locks
    × (length l.locks.readers.now ≡ length l.initial.locks.readers.now)
    × (locks_in l.locks ≡ rolled_back l.log l.i l.session (locks_in l.initial.locks))
