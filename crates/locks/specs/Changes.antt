-- A change of the locks on three lent slices.
use Rattle.std.specs.Prelude.{◌≡◌, ℕ, ◌≤◌, ◌<◌, List, [], length}
use Rattle.model.specs.Buffers.{Locks, lock_at}
use Rattle.model.specs.Turns.{changed}
use Rattle.records.specs.declared.Lock.{Lock}
use Rattle.records.specs.declared.Plan.{Plan}
use Rattle.records.specs.declared.Plan.TheVariants.{Enter, EnterUpdate, EnterMark}
use Rattle.records.specs.declared.Change.{Change}
use Rattle.records.specs.declared.Change.TheVariants.{Keep, Join, Claim, Acquire, Vacate, Withdraw, DropReads}
use Rattle.contracts.specs.Lent.{locks_of}
use Rattle.sweeps.specs.Sweeps.{Swept}

-- l is the lock of the cell that a plan enters
pub record LockFor (p : Plan) (L : Locks) (l : Lock) : Type 0 where
  pub enters : (c : ℕ) → p ≡ Enter c → l ≡ lock_at L c
  pub updates : (c v : ℕ) → p ≡ EnterUpdate c v → l ≡ lock_at L c
  pub marks : (c : ℕ) → p ≡ EnterMark c → l ≡ lock_at L c

-- what a change asks, of session s with m entries and n cells: its cell has a lock; or its entries can be swept
unfoldable pub ChangeFits : Change → ℕ → List ℕ → ℕ → ℕ → Type 0
ChangeFits Keep s log m n = Unit
ChangeFits (Join c) s log m n = c < n
ChangeFits (Claim c) s log m n = c < n
ChangeFits (Acquire c) s log m n = c < n
ChangeFits (Vacate c) s log m n = c < n
ChangeFits Withdraw s log m n = Swept s log m n
ChangeFits DropReads s log m n = Swept s log m n × (n ≤ 1024)

-- the parts of a change: of one cell, of rolling back, of sealing
unfoldable pub one_of : Change → Change
one_of Keep = Keep
one_of (Join c) = Join c
one_of (Claim c) = Claim c
one_of (Acquire c) = Acquire c
one_of (Vacate c) = Vacate c
one_of Withdraw = Keep
one_of DropReads = Keep

unfoldable pub withdraw_of : Change → Change
withdraw_of Keep = Keep
withdraw_of (Join c) = Keep
withdraw_of (Claim c) = Keep
withdraw_of (Acquire c) = Keep
withdraw_of (Vacate c) = Keep
withdraw_of Withdraw = Withdraw
withdraw_of DropReads = Keep

unfoldable pub drop_of : Change → Change
drop_of Keep = Keep
drop_of (Join c) = Keep
drop_of (Claim c) = Keep
drop_of (Acquire c) = Keep
drop_of (Vacate c) = Keep
drop_of Withdraw = Keep
drop_of DropReads = DropReads

-- a change by its parts, one after the other; `in_three` in proofs/Changes.antt says that they make it up
unfoldable pub in_parts : Change → List ℕ → ℕ → ℕ → Locks → Locks
in_parts d log m s L = changed (drop_of d) log m s (changed (withdraw_of d) log m s (changed (one_of d) [] 0 s L))

-- rolling back is a part of `Withdraw` alone, sealing of `DropReads` alone
abbrev pub OwnParts : Change → Type 0
OwnParts d = ((d ≡ Withdraw → ⊥) → withdraw_of d ≡ Keep) × ((d ≡ DropReads → ⊥) → drop_of d ≡ Keep)

-- what its sealing leaves of the reader sets
abbrev pub DropsIf : Change → List ℕ → ℕ → ℕ → List ℕ → List ℕ → Type 0
DropsIf d log m s R R' =
    (C E : List ℕ) → length C ≡ length R → length E ≡ length R → locks_of R' C E ≡ changed (drop_of d) log m s (locks_of R C E)
