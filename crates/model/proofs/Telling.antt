-- What a call may tell, whatever it is: what its answer ends, one thing, or a seal and the end. Laws of what is told go by this, and not by calls.
use Prim.Native.Nat.{ℕ, ◌≤◌}
use native.Mathlib.Omega.{arith}
use mathlib.Core.Path.{◌≡◌, refl}
use mathlib.Core.Bool.{true, false, not, ◌&&◌}
use mathlib.Core.List.{List, [], ◌∷◌}
use lib.Dec.{ltb, eqb}
use borrow.Author.Tests.{eqb-true, ne_eqb, ltb-true, not-true}
use Rattle.records.specs.declared.Call.{Call}
use Rattle.records.specs.declared.Call.TheVariants.{Begin, Read, Write, Seal, Advance, Abandon, Peek, Hold}
use Rattle.records.specs.declared.Answer.{Answer}
use Rattle.records.specs.declared.Answer.TheVariants.{Refused}
use Rattle.model.specs.Effects.{number, value_of}
use Rattle.model.specs.Told.{Told, began, got, put, held, sealed, moved, ended, ending, tells, WhereGot}
use Rattle.model.proofs.Tools.{split, both_l, both_r}

pub tells_any : (P : List Told → Type 0) (a : Answer) → P (ending a) → ((w : Told) → 100 ≤ number a → WhereGot (λ c v. v ≡ value_of a) w → P (w ∷ []))
    → (number a ≡ 105 → P (ended ∷ sealed ∷ [])) → (k : Call) (m : ℕ) → P (tells k a m)
unfolding tells
tells_any P a e f g k m = go k
  where
    big : (m : ℕ) → 100 ≤ m → eqb (number a) m ≡ true → 100 ≤ number a
    big m l h = let q = eqb-true (number a) m h in omega arith

    go : (k : Call) → P (tells k a m)
    go (Begin s) = split P (eqb (number a) 100) (λ h. f began (big 100 (omega arith) h) tt) (λ _. e)
    go (Read s c) = split P (eqb (number a) 101) (λ h. f (got c (value_of a)) (big 101 (omega arith) h) refl) (λ _. e)
    go (Write s c v) = split P (eqb (number a) 100) (λ h. f (put c v m) (big 100 (omega arith) h) tt) (λ _. e)
    go (Seal s) = split P (eqb (number a) 102) (λ h. f sealed (big 102 (omega arith) h) tt) (λ _. split P (eqb (number a) 105) (λ h. g (eqb-true (number a) 105 h)) (λ _. e))
    go (Advance s) = split P (eqb (number a) 103) (λ h. f moved (big 103 (omega arith) h) tt) (λ _. e)
    go (Abandon s) = split P (eqb (number a) 100) (λ h. f ended (big 100 (omega arith) h) tt) (λ _. e)
    go (Peek s c) = e
    go (Hold s c) = split P (eqb (number a) 101) (λ h. f (held c (value_of a) m) (big 101 (omega arith) h) refl) (λ _. e)

-- a refusal below 100 but 6 tells nothing
module _ (r : ℕ) (small : (ltb r 100 && not (eqb r 6)) ≡ true) where
  pub off : (m : ℕ) → 100 ≤ m → eqb r m ≡ false
  off m l = let q = ltb-true r 100 (both_l (ltb r 100) (not (eqb r 6)) small) in ne_eqb r m (λ e. omega arith)

  pub not_six : eqb r 6 ≡ false
  not_six = not-true (eqb r 6) (both_r (ltb r 100) (not (eqb r 6)) small)

  pub refused_tells : (k : Call) (m : ℕ) → tells k (Refused r) m ≡ []
  unfolding ending
  refused_tells k m =
      let q = ltb-true r 100 (both_l (ltb r 100) (not (eqb r 6)) small) in
      tells_any (λ ws. ws ≡ []) (Refused r) (rw (not_six, off 105 (omega arith))) (λ w l _. absurd (omega arith)) (λ e. absurd (omega arith)) k m
