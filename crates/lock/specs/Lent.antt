-- The locks of all cells on three lent slices, as the model's.
use Rattle.std.specs.Prelude.{◌≡◌}
use Rattle.model.specs.Buffers.{Locks}
use Rattle.lock.specs.declared.Locks.{Locks as LentLocks}

abbrev pub locks_in : LentLocks → Locks
locks_in l = record { readers = l.readers.now; claimants = l.claimants.now; exclusives = l.exclusives.now }

-- the same three slices, whatever stands in them: so who lent them learns what stands there
abbrev pub SameSlices : LentLocks → LentLocks → Type 0
SameSlices k l =
    (l.readers.ghost_name ≡ k.readers.ghost_name) × (l.claimants.ghost_name ≡ k.claimants.ghost_name) × (l.exclusives.ghost_name ≡ k.exclusives.ghost_name)
