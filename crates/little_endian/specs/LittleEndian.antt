-- Little-endian numbers in bytes, as document 01's opening paragraph asks of every number of several bytes.
-- Assumes nothing.
use Rattle.std.specs.Prelude.{ℕ, zero, suc, ◌+◌, ◌*◌, ◌/◌, ◌%◌, ◌≡◌, ◌⊎◌, List, [], ◌∷◌, take, drop}

-- The number that a run of bytes stands for: the first byte counts ones, the next 256s, and so on. No bytes stand for 0.
unfoldable pub number : List ℕ → ℕ
number [] = 0
number (b ∷ bs) = b + 256 * number bs

-- The number in the `w` bytes from index `i` on.
unfoldable pub number_at : List ℕ → ℕ → ℕ → ℕ
number_at bytes i w = number (take w (drop i bytes))

-- The `w` lowest bytes of `x`, the lowest first.
unfoldable pub bytes_of : ℕ → ℕ → List ℕ
bytes_of zero x = []
bytes_of (suc w) x = x % 256 ∷ bytes_of w (x / 256)

-- A number takes all of its bytes or none.
abbrev pub Whole : ℕ → ℕ → Type 0
Whole all w = (w ≡ 0) ⊎ (w ≡ all)
