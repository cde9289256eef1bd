-- A reader set as a number: session s is in it where binary digit s is 1 (document 01, "What the caller lends", Locks).
use Rattle.std.specs.Prelude.{ℕ, zero, suc, ◌+◌, ◌*◌, ◌/◌, ◌%◌, Bool, true, false, cond, eqb}
use Rattle.std.specs.Int.Count.{ones}

-- the lowest binary digit is 1
unfoldable pub odd : ℕ → Bool
odd x = eqb (x % 2) 1

-- digit s, and the set with digit s made b
unfoldable pub member : ℕ → ℕ → Bool
unfolding odd
member x zero = odd x
member x (suc s) = member (x / 2) s

unfoldable pub assign : ℕ → ℕ → Bool → ℕ
assign x zero b = x / 2 * 2 + cond b 1 0
assign x (suc s) b = assign (x / 2) s b * 2 + x % 2

-- a session joins the readers, and leaves them
abbrev pub with_reader : ℕ → ℕ → ℕ
with_reader s x = assign x s true

abbrev pub without_reader : ℕ → ℕ → ℕ
without_reader s x = assign x s false

-- the other readers: the ones in the set, the session's own bit left aside
unfoldable pub other_readers : ℕ → ℕ → ℕ
other_readers s x = ones (without_reader s x)
