-- A new cell's value is found where its lock is not claimed.
use mathlib.Core.Path.{◌≡◌}
use mathlib.Core.Bool.{true, false}
use mathlib.Core.List.{List}
use Prim.Native.Nat.{ℕ}
use lib.ListN.{get_or}
use Rattle.std.specs.Prelude.{Some, None}
use Rattle.model.specs.Plans.{claimed}
use Rattle.records.specs.declared.Lock.{Lock}
use Rattle.calls.specs.Pieces.{found_unclaimed}
use Rattle.model.proofs.Tools.{test}

module _ (vs : List ℕ) (l : Lock) (c : ℕ) where
  pub when_claimed : None ≡ found_unclaimed vs l c → claimed l ≡ true
  unfolding found_unclaimed
  when_claimed h = test (claimed l) (λ q. q) (λ q. absurd (let z = rw q at h in cc))

  pub when_found : (v : ℕ) → Some v ≡ found_unclaimed vs l c → (claimed l ≡ false) × (v ≡ get_or vs c 0)
  unfolding found_unclaimed
  when_found v h = test (claimed l) (λ q. absurd (let z = rw q at h in cc)) (λ q. (q, (let z = rw q at h in cc)))
