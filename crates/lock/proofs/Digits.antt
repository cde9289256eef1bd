-- The machine's words as sets: `x | (1 << s)`, `x & !(1 << s)` and `(x >> s) % 2` are the model's joining, leaving and membership, at any width.
-- By induction on the digit, lowest first, as both sides are defined.
use Prim.Native.Nat.{ℕ, zero, suc, ◌+◌, ◌-◌, ◌*◌, ◌/◌, ◌%◌, ◌^◌, ◌<◌, min, max}
use mathlib.Core.Bool.{true, false}
use mathlib.Core.Path.{◌≡◌, refl, sym, ap, ap₂, ◌∙◌}
use native.Mathlib.Nat.{pow-suc, one-mul, mod-eq_of_lt}
use native.Mathlib.Omega.{arith}
use lib.Bits.{bit_and, bit_or, and_step, or_step, or_zero_r, and_mask}
use lib.Dec.{eqb}
use lib.Pow.{pow_pos, pow-lt, shr-shr}
use Rattle.model.specs.Readers.{odd, member, assign}

-- ---- one digit

-- a one shifted into a word of w digits
pub shifted : (w s : ℕ) → s < w → 1 * 2 ^ s % 2 ^ w ≡ 2 ^ s
shifted w s h = ap (λ (n : ℕ). n % 2 ^ w) (one-mul (2 ^ s)) ∙ mod-eq_of_lt (pow-lt {i = s} {j = w} h)

pub or_joins : (s x : ℕ) → bit_or x (2 ^ s) ≡ assign x s true
unfolding assign
or_joins zero x =
    let b : max (x % 2) 1 ≡ 1 = omega arith in
    or_step x 1 ∙ ap₂ (λ (m n : ℕ). m * 2 + n) (or_zero_r (x / 2)) b
or_joins (suc s) x =
    let p = pow-suc 2 s in
    let h : 2 ^ suc s / 2 ≡ 2 ^ s = omega arith in
    let b : max (x % 2) (2 ^ suc s % 2) ≡ x % 2 = omega arith in
    or_step x (2 ^ suc s) ∙ ap₂ (λ (m n : ℕ). m * 2 + n) (ap (bit_or (x / 2)) h ∙ or_joins s (x / 2)) b

pub and_leaves : (w s x : ℕ) → s < w → x < 2 ^ w → bit_and x (2 ^ w - 1 - 2 ^ s) ≡ assign x s false
unfolding assign
and_leaves zero s x l h = absurd (omega arith)
and_leaves (suc w) zero x l h =
    let p = pow-suc 2 w in
    let q = pow_pos w in
    let m = 2 ^ suc w - 1 - 2 ^ 0 in
    let d : m / 2 ≡ 2 ^ w - 1 = omega arith in
    let b : min (x % 2) (m % 2) ≡ 0 = omega arith in
    let k : x / 2 < 2 ^ w = omega arith in
    and_step x m ∙ ap₂ (λ (m n : ℕ). m * 2 + n) (ap (bit_and (x / 2)) d ∙ and_mask (x / 2) w ∙ mod-eq_of_lt k) b
and_leaves (suc w) (suc s) x l h =
    let p = pow-suc 2 w in
    let q = pow-suc 2 s in
    let r = pow-lt {i = s} {j = w} (omega arith) in
    let m = 2 ^ suc w - 1 - 2 ^ suc s in
    let d : m / 2 ≡ 2 ^ w - 1 - 2 ^ s = omega arith in
    let b : min (x % 2) (m % 2) ≡ x % 2 = omega arith in
    and_step x m ∙ ap₂ (λ (m n : ℕ). m * 2 + n) (ap (bit_and (x / 2)) d ∙ and_leaves w s (x / 2) (omega arith) (omega arith)) b

pub shift_tells : (s x : ℕ) → eqb (x / 2 ^ s % 2) 1 ≡ member x s
unfolding member odd
shift_tells zero x = let e : x / 1 ≡ x = omega arith in rw e
shift_tells (suc s) x =
    let e : 1 + s ≡ suc s = omega arith in
    let f : x / 2 ^ suc s ≡ x / 2 / 2 ^ s = sym (shr-shr x 1 s ∙ ap (λ (n : ℕ). x / 2 ^ n) e) in
    rw f (shift_tells s (x / 2))

-- the empty set
pub no_member : (s : ℕ) → member 0 s ≡ false
unfolding member odd
no_member zero = refl
no_member (suc s) = no_member s
