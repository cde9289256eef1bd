-- That the stores of a change of one cell are that change, and that the three parts of a change together are the change.
use Prim.Native.Nat.{ℕ}
use mathlib.Core.List.{List}
use mathlib.Core.Path.{◌≡◌, refl}
use lib.ListN.{get_or, set}
use lib.Seq.{set-get_or}
use Rattle.model.specs.Buffers.{Locks, lock_at, set_lock, on_lock, join, claim, acquire, vacate}
use Rattle.model.specs.Readers.{with_reader, without_reader}
use Rattle.model.specs.Turns.{changed}
use Rattle.records.specs.declared.Change.{Change}
use Rattle.records.specs.declared.Change.TheVariants.{Keep, Join, Claim, Acquire, Vacate, Withdraw, DropReads}
use Rattle.contracts.specs.Lent.{locks_of}
use Rattle.locks.specs.Changes.{one_of, withdraw_of, drop_of, in_parts, OwnParts}

-- ---- the three parts of a change

-- one after the other they carry the change out
pub in_three : (d : Change) (log : List ℕ) (m s : ℕ) (L : Locks) → in_parts d log m s L ≡ changed d log m s L
unfolding in_parts changed one_of withdraw_of drop_of
in_three Keep log m s L = refl
in_three (Join c) log m s L = refl
in_three (Claim c) log m s L = refl
in_three (Acquire c) log m s L = refl
in_three (Vacate c) log m s L = refl
in_three Withdraw log m s L = refl
in_three DropReads log m s L = refl

-- rolling back and sealing are each a part of one change alone
pub own_parts : (d : Change) → OwnParts d
unfolding withdraw_of drop_of
own_parts Keep = ((λ h. refl), (λ h. refl))
own_parts (Join c) = ((λ h. refl), (λ h. refl))
own_parts (Claim c) = ((λ h. refl), (λ h. refl))
own_parts (Acquire c) = ((λ h. refl), (λ h. refl))
own_parts (Vacate c) = ((λ h. refl), (λ h. refl))
own_parts Withdraw = ((λ h. absurd (h refl)), (λ h. refl))
own_parts DropReads = ((λ h. refl), (λ h. absurd (h refl)))

-- ---- the stores of each change

module _ (s : ℕ) (R C E : List ℕ) (c : ℕ) where
  pub join_stored : locks_of (set R c (with_reader s (get_or R c 0))) C E ≡ on_lock c (join s) (locks_of R C E)
  unfolding on_lock lock_at set_lock join
  join_stored = rw (set-get_or C c 16, set-get_or E c 0)

  pub claim_stored : locks_of R (set C c s) E ≡ on_lock c (claim s) (locks_of R C E)
  unfolding on_lock lock_at set_lock claim
  claim_stored = rw (set-get_or R c 0, set-get_or E c 0)

  pub acquire_stored : locks_of R (set C c s) (set E c 1) ≡ on_lock c (acquire s) (locks_of R C E)
  unfolding on_lock lock_at set_lock acquire
  acquire_stored = rw (set-get_or R c 0)

  pub vacate_stored : locks_of (set R c (without_reader s (get_or R c 0))) (set C c 16) (set E c 0) ≡ on_lock c (vacate s) (locks_of R C E)
  unfolding on_lock lock_at set_lock vacate
  vacate_stored = refl
