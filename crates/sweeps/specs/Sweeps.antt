-- What rolling back and sealing leave of the locks as three lent lists, by the session's log.
use Rattle.std.specs.Prelude.{◌≡◌, ℕ, ◌*◌, ◌/◌, ◌%◌, ◌≤◌, ◌<◌, Bool, true, false, cond, not, List, length, get_or, set}
use Rattle.std.specs.Prelude.{Option, Some, None}
use Rattle.model.specs.Search.{below}
use Rattle.model.specs.Readers.{member, with_reader, without_reader}
use Rattle.model.specs.Slices.{Slice}
use Rattle.model.specs.Effects.{rolled_back}
use Rattle.contracts.specs.Lent.{locks_of}
use Rattle.lock.specs.declared.Locks.{Locks as LentLocks}
use Rattle.lock.specs.Lent.{locks_in}
use Rattle.model.specs.Buffers.{cell_at, entry_at, publishes, publishes_in, sweep, leave}

-- what a sweep of m entries asks: the session is one of sixteen, the entries lie in the log, each cell has a lock
pub record Swept (s : ℕ) (log : List ℕ) (m : ℕ) (n : ℕ) : Type 0 where
  pub session : s < 16
  pub count : 4 * m ≤ length log
  pub cells : below n (cell_at log) m ≡ true

-- rolling back: the locks that a sweep of m entries of a log leaves
abbrev pub RollsBack : List ℕ → ℕ → ℕ → LentLocks → LentLocks → Type 0
RollsBack log m s before after = locks_in after ≡ rolled_back log m s (locks_in before)

-- sealing: the reader sets R' are those that the first k of m entries leave of R, whatever claimants and marks stand beside them; and that all m leave
abbrev pub DroppedSoFar : List ℕ → ℕ → ℕ → ℕ → List ℕ → List ℕ → Type 0
DroppedSoFar log m k s R R' =
    (C E : List ℕ) → length C ≡ length R → length E ≡ length R
    → locks_of R' C E ≡ sweep (λ c. not (publishes_in log m c)) (leave s) (cell_at log) k (locks_of R C E)

abbrev pub DropsReads : List ℕ → ℕ → ℕ → List ℕ → List ℕ → Type 0
DropsReads log m s R R' = DroppedSoFar log m m s R R'

-- none of the first k entries publishes
abbrev pub NonePublished : List ℕ → ℕ → Type 0
NonePublished log k = (j : ℕ) → j < k → publishes (entry_at log j) ≡ false

-- sealing so far as the first of m entries that publishes, where there is one
abbrev pub DropsUpTo : List ℕ → ℕ → ℕ → List ℕ → List ℕ → Option ℕ → Type 0
DropsUpTo log m s R R' None = DropsReads log m s R R'
DropsUpTo log m s R R' (Some k) = (k ≤ m) × NonePublished log k × DroppedSoFar log m k s R R'

-- a set of cells below 1,024 as sixteen words of 64 binary digits
unfoldable pub marked : List ℕ → ℕ → Bool
marked written c = member (get_or written (c / 64) 0) (c % 64)

unfoldable pub mark : List ℕ → ℕ → List ℕ
mark written c = set written (c / 64) (with_reader (c % 64) (get_or written (c / 64) 0))

-- one entry of the sweep at sealing: the cell of an entry that publishes is marked; of the others those that are not marked lose the session as a reader
unfoldable pub dropped_written : List ℕ → ℕ → List ℕ → List ℕ
dropped_written log k written = cond (publishes (entry_at log k)) (mark written (cell_at log k)) written

unfoldable pub dropped_at : List ℕ → ℕ → ℕ → List ℕ → List ℕ → List ℕ
dropped_at log k s written R =
    cond (publishes (entry_at log k)) R
    (cond (marked written (cell_at log k)) R (set R (cell_at log k) (without_reader s (get_or R (cell_at log k) 0))))

-- what one entry leaves of the cells marked and of the reader sets
abbrev pub DropsAt : Slice → ℕ → ℕ → Slice → Slice → Type 0
DropsAt log k s written readers =
    (written.exit.now ≡ dropped_written log.entry.now k written.entry.now)
    × (readers.exit.now ≡ dropped_at log.entry.now k s written.entry.now readers.entry.now)
