-- The tests as numbers.
use Rattle.std.specs.Prelude.{ℕ, Bool, ltb, length}
use Rattle.model.specs.Buffers.{Buffers, lengths_match}
use Rattle.model.specs.Plans.{require}
use Rattle.refusals.specs.declared.Lengths.{Lengths}

-- the lengths of buffers
abbrev pub lengths_in : Buffers → Lengths
lengths_in B =
    record {
      values = length B.values;
      classes = length B.classes;
      readers = length B.locks.readers;
      claimants = length B.locks.claimants;
      exclusives = length B.locks.exclusives;
      logs = length B.logs;
    }

-- whether the lengths fit
abbrev pub match_of : Lengths → Bool
match_of l = lengths_match l.values l.classes l.readers l.claimants l.exclusives l.logs

-- 7, 1, or 0 where the lengths fit and the session is one of sixteen
unfoldable pub admission : Bool → ℕ → ℕ
admission fit s = require fit 7 (require (ltb s 16) 1 0)

-- 9, 2, or 0 where both tests pass
unfoldable pub tested : Bool → Bool → ℕ
tested whole fit = require whole 9 (require fit 2 0)
