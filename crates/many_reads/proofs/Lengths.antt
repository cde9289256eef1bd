-- What is known of lengths that are admitted.
use Prim.Native.Nat.{ℕ, ◌<◌, ◌≤◌}
use native.Mathlib.Omega.{arith}
use mathlib.Core.Path.{◌≡◌}
use mathlib.Core.Bool.{true}
use borrow.Author.Tests.{ltb-true, leb-true, eqb-true}
use lib.Dec.{leb, ltb, eqb}
use Rattle.model.specs.Buffers.{lengths_match}
use Rattle.model.proofs.Tools.{test, clash, and-false}
use Rattle.refusals.specs.declared.Lengths.{Lengths}
use Rattle.refusals.specs.Pieces.{match_of, admission}

module _ (l : Lengths) (s : ℕ) (e : 0 ≡ admission (match_of l) s) where
  matched : match_of l ≡ true
  unfolding admission
  matched = test (match_of l) (λ f. f) (λ f. absurd (let w : 0 ≡ 7 = rw f at e in omega arith))

  pub low : s < 16
  unfolding admission
  low = test (ltb s 16) (λ b. ltb-true s 16 b) (λ b. absurd (let w : 0 ≡ 1 = rw (matched, b) at e in omega arith))

  pub long : l.logs ≡ 2048
  unfolding lengths_match
  long = test (eqb l.logs 2048) (λ b. eqb-true l.logs 2048 b) (λ b. absurd (clash (match_of l) matched (rw (b, and-false))))

  pub few : l.values ≤ 1024
  unfolding lengths_match
  few = test (leb l.values 1024) (λ b. leb-true l.values 1024 b) (λ b. absurd (clash (match_of l) matched (rw (b, and-false))))
