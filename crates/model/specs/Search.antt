-- Searches over the first k entries of a log, each defined entry by entry: the value at suc k is that at k and one entry more; and a count of numbers.
use Rattle.std.specs.Prelude.{ℕ, zero, suc, ◌+◌, Bool, true, false, cond, ◌&&◌, ltb, eqb}
use Rattle.std.proofs.Math.Option.{Option, none, some}

abbrev pub some? : Option ℕ → Bool
some? none = false
some? (some c) = true

-- the former where it is there, else the latter
unfoldable pub or_else : Option ℕ → Option ℕ → Option ℕ
or_else none b = b
or_else (some i) b = some i

-- the first of k entries whose cell is c: of several entries for one cell the first counts
unfoldable pub find : (ℕ → ℕ) → ℕ → ℕ → Option ℕ
unfolding or_else
find cell zero c = none
find cell (suc k) c = or_else (find cell k c) (cond (eqb (cell k) c) (some k) none)

-- the lower of a cell so far, if there is one, and another
unfoldable pub lower : Option ℕ → ℕ → Option ℕ
lower none c = some c
lower (some b) c = cond (ltb c b) (some c) (some b)

-- the lowest cell of k entries that passes a test
unfoldable pub lowest : (ℕ → Bool) → (ℕ → ℕ) → ℕ → Option ℕ
unfolding lower
lowest fit cell zero = none
lowest fit cell (suc k) = cond (fit (cell k)) (lower (lowest fit cell k) (cell k)) (lowest fit cell k)

-- each cell of k entries is below n
unfoldable pub below : ℕ → (ℕ → ℕ) → ℕ → Bool
below n cell zero = true
below n cell (suc k) = ltb (cell k) n && below n cell k

-- how many numbers below n pass a test
unfoldable pub tally : (ℕ → Bool) → ℕ → ℕ
tally f zero = 0
tally f (suc n) = cond (f n) 1 0 + tally f n
