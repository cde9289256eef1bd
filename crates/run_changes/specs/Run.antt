-- The locks as one run of records, the model's store with such locks, and what a call does to the run.
use Rattle.std.specs.Prelude.{◌≡◌, ℕ, zero, suc, ◌≤◌, ◌<◌, cond, List, [], ◌∷◌, length, get_or, set}
use Rattle.model.specs.Buffers.{Locks, Buffers, Limits, Store, free, log_in, cell_at, publishes_in, join, leave, vacate, withdraw, claim, acquire}
use Rattle.records.specs.declared.Lock.{Lock}
use Rattle.records.specs.declared.Sessions.{Sessions}
use Rattle.records.specs.declared.Change.{Change as LockChange}
use Rattle.records.specs.declared.Change.TheVariants as to
use Rattle.run_changes.specs.declared.Change.{Change}
use Rattle.run_changes.specs.declared.Change.TheVariants.{Turn, Clear}

-- ---- the run and the three lists

-- one field of every record
abbrev pub each : (Lock → ℕ) → List Lock → List ℕ
each f [] = []
each f (l ∷ ls) = f l ∷ each f ls

-- the records as the model keeps locks: each field in a list of its own
abbrev pub unzipped : List Lock → Locks
unzipped ls =
    record { readers = each (λ l. l.readers) ls; claimants = each (λ l. l.claimant) ls; exclusives = each (λ l. l.exclusive) ls }

-- the lent buffers whose locks are a run, and the store under the limits G
abbrev pub lent_on : List ℕ → List ℕ → List Lock → List ℕ → Buffers
lent_on values classes locks logs = record { values = values; classes = classes; locks = unzipped locks; logs = logs }

abbrev pub store_on : Limits → List ℕ → List ℕ → List Lock → List ℕ → Sessions → Store
store_on G values classes locks logs sessions = record { lent = lent_on values classes locks logs; limits = G; sessions = sessions }

-- ---- what a call does to the run

-- the lock of a cell; past the last cell an empty one
abbrev pub lock_in : List Lock → ℕ → Lock
lock_in ls c = get_or ls c free

-- a turn's change as one of the run, by session s with m entries; and no change
unfoldable pub on_run : LockChange → ℕ → ℕ → Change
on_run d s m = Turn d s m

abbrev pub kept : Change
kept = Turn to.Keep 0 0

-- how many locks are changed, one after the other
unfoldable pub count_of : Change → ℕ
count_of (Turn to.Keep s m) = 0
count_of (Turn (to.Join c) s m) = 1
count_of (Turn (to.Claim c) s m) = 1
count_of (Turn (to.Acquire c) s m) = 1
count_of (Turn (to.Vacate c) s m) = 1
count_of (Turn to.Withdraw s m) = m
count_of (Turn to.DropReads s m) = m
count_of (Clear n) = n

-- the cell whose lock is changed i-th, from 0; 1,024 is no cell
unfoldable pub cell_of : List ℕ → Change → ℕ → ℕ
cell_of logs (Turn to.Keep s m) i = 1024
cell_of logs (Turn (to.Join c) s m) i = c
cell_of logs (Turn (to.Claim c) s m) i = c
cell_of logs (Turn (to.Acquire c) s m) i = c
cell_of logs (Turn (to.Vacate c) s m) i = c
cell_of logs (Turn to.Withdraw s m) i = cell_at (log_in logs s) i
cell_of logs (Turn to.DropReads s m) i = let c = cell_at (log_in logs s) i in cond (publishes_in (log_in logs s) m c) 1024 c
cell_of logs (Clear n) i = i

-- what becomes of a lock
unfoldable pub change_of : Change → Lock → Lock
change_of (Turn to.Keep s m) l = l
change_of (Turn (to.Join c) s m) l = join s l
change_of (Turn (to.Claim c) s m) l = claim s l
change_of (Turn (to.Acquire c) s m) l = acquire s l
change_of (Turn (to.Vacate c) s m) l = vacate s l
change_of (Turn to.Withdraw s m) l = withdraw s l
change_of (Turn to.DropReads s m) l = leave s l
change_of (Clear n) l = free

-- the run with one lock changed; past the end nothing is
abbrev pub changed_at : Change → ℕ → List Lock → List Lock
changed_at d c ls = set ls c (change_of d (lock_in ls c))

-- the run with k locks changed, and with all
unfoldable pub swept : List ℕ → Change → ℕ → List Lock → List Lock
swept logs d zero ls = ls
swept logs d (suc k) ls = changed_at d (cell_of logs d k) (swept logs d k ls)

abbrev pub swept_by : List ℕ → Change → List Lock → List Lock
swept_by logs d ls = swept logs d (count_of d) ls

-- what changing one lock asks: the session is one of sixteen
abbrev pub SessionFits : Change → Type 0
SessionFits (Turn to.Keep s m) = Unit
SessionFits (Turn (to.Join c) s m) = s < 16
SessionFits (Turn (to.Claim c) s m) = s < 16
SessionFits (Turn (to.Acquire c) s m) = s < 16
SessionFits (Turn (to.Vacate c) s m) = s < 16
SessionFits (Turn to.Withdraw s m) = s < 16
SessionFits (Turn to.DropReads s m) = s < 16
SessionFits (Clear n) = Unit

-- and changing all: where entries are gone through, they are at most 32, in logs of 2,048 words
abbrev pub ChangeFits : List ℕ → Change → Type 0
ChangeFits logs (Turn to.Keep s m) = Unit
ChangeFits logs (Turn (to.Join c) s m) = s < 16
ChangeFits logs (Turn (to.Claim c) s m) = s < 16
ChangeFits logs (Turn (to.Acquire c) s m) = s < 16
ChangeFits logs (Turn (to.Vacate c) s m) = s < 16
ChangeFits logs (Turn to.Withdraw s m) = (s < 16) × (m ≤ 32) × (length logs ≡ 2048)
ChangeFits logs (Turn to.DropReads s m) = (s < 16) × (m ≤ 32) × (length logs ≡ 2048)
ChangeFits logs (Clear n) = Unit
