-- The first of some places of which a test holds.
use Rattle.std.specs.Prelude.{ℕ, ◌<◌, Bool, true, false, Option, Some, None}

-- A k b says that the test answers b of place k
abbrev pub NoneOf : (ℕ → Bool → Type 0) → ℕ → Type 0
NoneOf A count = (k : ℕ) → k < count → A k false

unfoldable pub IsFirst : (ℕ → Bool → Type 0) → ℕ → Option ℕ → Type 0
IsFirst A count None = NoneOf A count
IsFirst A count (Some i) = (i < count) × A i true × NoneOf A i
