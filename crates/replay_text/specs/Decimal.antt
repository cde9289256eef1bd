-- A number in decimal, as ASCII codes: no leading zeros, and 0 is one digit.
use Rattle.std.specs.Prelude.{ℕ, zero, suc, ◌+◌, ◌/◌, ◌%◌, cond, List, [], ◌∷◌, ◌++◌, ltb}

-- the code of a digit
abbrev pub digit : ℕ → ℕ
digit d = 48 + d

-- the digits of n with at most so many divisions by 10
unfoldable pub digits : ℕ → ℕ → List ℕ
digits zero n = digit n ∷ []
digits (suc divisions) n = cond (ltb n 10) (digit n ∷ []) (digits divisions (n / 10) ++ digit (n % 10) ∷ [])

-- n divisions are enough (proofs/Decimals.antt: decimal_digit, decimal_more)
unfoldable pub decimal : ℕ → List ℕ
decimal n = digits n n
