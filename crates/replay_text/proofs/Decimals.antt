-- Decimal numbers: the two equations that define them, free of the count of divisions, and how many digits there are.
use Prim.Native.Nat.{ℕ, zero, suc, ◌+◌, ◌/◌, ◌%◌, ◌^◌, ◌≤◌, ◌<◌}
use native.Mathlib.Omega.{arith}
use mathlib.Core.Path.{◌≡◌, refl, sym, ◌∙◌, ap}
use mathlib.Core.List.{[], ◌∷◌, ◌++◌}
use lib.Dec.{ltb}
use lib.ListN.{length, length-append}
use Rattle.model.proofs.Tools.{test}
use borrow.Author.Tests.{lt-ltb, le-ltb, ltb-true, ltb-false}
use Rattle.replay_text.specs.Decimal.{digit, digits, decimal}
use Rattle.replay_text.specs.Lines.{word, space, newline, cell_line}

-- one digit below 10, however many divisions are left
one_digit : (k n : ℕ) → n < 10 → digits k n ≡ digit n ∷ []
unfolding digits
one_digit zero n h = refl
one_digit (suc k) n h = simp (lt-ltb n 10 h)

-- two counts of divisions that are both at least n give the same digits
enough : (j k n : ℕ) → n ≤ j → n ≤ k → digits j n ≡ digits k n
unfolding digits
enough zero k n a b = sym (one_digit k n (omega arith))
enough (suc j) zero n a b = one_digit (suc j) n (omega arith)
enough (suc j) (suc k) n a b =
    test (ltb n 10)
    (λ h. simp h)
    (λ h. let big : 10 ≤ n = ltb-false n 10 h in
    simp (h, enough j k (n / 10) (omega arith) (omega arith)))

pub decimal_digit : (n : ℕ) → n < 10 → decimal n ≡ digit n ∷ []
unfolding decimal
decimal_digit n h = one_digit n n h

more : (k n : ℕ) → 10 ≤ n → n ≤ suc k → digits (suc k) n ≡ decimal (n / 10) ++ digit (n % 10) ∷ []
unfolding digits decimal
more k n h b = simp (le-ltb _ _ h, enough k (n / 10) (n / 10) (omega arith) (omega arith))

pub decimal_more : (n : ℕ) → 10 ≤ n → decimal n ≡ decimal (n / 10) ++ digit (n % 10) ∷ []
unfolding decimal
decimal_more zero h = absurd (omega arith)
decimal_more (suc k) h = more k (suc k) h (omega arith)

pub length-digit : (n : ℕ) → n < 10 → length (decimal n) ≡ 1
length-digit n h = ap length (decimal_digit n h)

pub length_more : (n : ℕ) → 10 ≤ n → length (decimal n) ≡ length (decimal (n / 10)) + 1
length_more n h = ap length (decimal_more n h) ∙ simp length-append

-- a number below 10 ^ (k + 1) has at most k + 1 digits
pub length-decimal : (k n : ℕ) → n < 10 ^ suc k → length (decimal n) ≤ suc k
length-decimal zero n h = omega (arith, length-digit n (omega arith))
length-decimal (suc k) n h =
    test (ltb n 10)
    (λ small. omega (arith, length-digit n (ltb-true n 10 small)))
    (λ big.
    let tenth : n / 10 < 10 ^ suc k = omega arith in
    let shorter = length-decimal k (n / 10) tenth in
    omega (arith, length_more n (ltb-false n 10 big)))

pub length-word : (k n end : ℕ) → n < 10 ^ suc k → length (word n end) ≤ suc (suc k)
unfolding word
length-word k n end h = simp length-append (omega (arith, length-decimal k n h))

pub length-pair : (j k n m end : ℕ) → n < 10 ^ suc j → m < 10 ^ suc k → length (word n space ++ word m end) ≤ j + k + 4
length-pair j k n m end h i = simp length-append (omega (arith, length-word j n space h, length-word k m end i))

pub length-cell : (i v : ℕ) → i < 10000 → v < 4294967296 → length (cell_line i v) ≤ 18
unfolding cell_line
length-cell i v h k = omega (arith, length-pair 3 9 i v newline (omega arith) (omega arith))
