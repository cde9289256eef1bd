-- A set of cells in words of 64 binary digits: a cell put in is in it, and every other cell as before.
use Prim.Native.Nat.{ℕ, ◌*◌, ◌/◌, ◌%◌, ◌^◌, ◌<◌}
use mathlib.Core.Bool.{true}
use mathlib.Core.List.{List}
use mathlib.Core.Path.{◌≡◌}
use native.Mathlib.Omega.{arith}
use lib.Bits.{bit_or}
use lib.ListN.{length, get_or, set}
use lib.Seq.{get_or-set_same, get_or-set_other}
use Rattle.model.proofs.Tools.{same, member_assign_same, member_assign_other}
use Rattle.lock.proofs.Digits.{shifted, or_joins}
use Rattle.sweeps.specs.Sweeps.{marked, mark}

pub mark_store : (written : List ℕ) (c : ℕ) → set written (c / 64) (bit_or (get_or written (c / 64) 0) (1 * 2 ^ (c % 64) % 2 ^ 64)) ≡ mark written c
unfolding mark
mark_store written c = rw (shifted 64 (c % 64) (omega arith), or_joins (c % 64) (get_or written (c / 64) 0))

pub marked_same : (written : List ℕ) (c : ℕ) → c / 64 < length written → marked (mark written c) c ≡ true
unfolding marked mark
marked_same written c h = rw (get_or-set_same written (c / 64) _ 0 h) (member_assign_same _ (c % 64) true)

pub marked_other : (written : List ℕ) (c d : ℕ) → c / 64 < length written → (d ≡ c → ⊥) → marked (mark written c) d ≡ marked written d
unfolding marked mark
marked_other written c d h n =
    same (d / 64) (c / 64)
    (λ e. rw (e, get_or-set_same written (c / 64) _ 0 h) (member_assign_other _ (c % 64) (d % 64) true (λ q. n (omega arith))))
    (λ e. rw (get_or-set_other written (c / 64) (d / 64) _ 0 e))
