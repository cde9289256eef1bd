-- What the searches of one session's log answer, in the model's terms.
use Rattle.std.specs.Prelude.{ℕ, zero, suc, Bool, false, cond, not, ◌&&◌, List, ◌≡◌, leb, ltb, Some, None}
use Rattle.std.specs.Prelude as code
use Rattle.std.proofs.Math.Option.{Option, none, some}
use Rattle.model.specs.Search.{some?}
use Rattle.model.specs.Buffers.{cell_at, entry_at, slot_in, publishes, target_in}

-- a search's answer, as the model has it
abbrev pub found : code.Option ℕ → Option ℕ
found None = none
found (Some k) = some k

-- the lower of a cell so far and entry k's, where that is not below a cell and the entry publishes by itself
unfoldable pub better : List ℕ → ℕ → ℕ → ℕ → ℕ
better log from k best =
    cond (leb from (cell_at log k) && (ltb (cell_at log k) best && publishes (entry_at log k))) (cell_at log k) best

-- the lowest such cell of k entries; n where there is none
unfoldable pub lowest_publishing : List ℕ → ℕ → ℕ → ℕ → ℕ
lowest_publishing log n from zero = n
lowest_publishing log n from (suc k) = better log from k (lowest_publishing log n from k)

-- the first entry of a cell, where there is a cell
unfoldable pub slot_of : List ℕ → ℕ → Option ℕ → Option ℕ
slot_of log m none = none
slot_of log m (some c) = slot_in log m c

-- the first entry of the lowest cell that publishes, not below a cell
unfoldable pub target_slot : List ℕ → ℕ → ℕ → Option ℕ
target_slot log m from = slot_of log m (target_in log m from)

-- the lowest two such cells of k entries; n for each that there is not
pub record LowestTwo (log : List ℕ) (n from k low high : ℕ) : Type 0 where
  pub low_is : low ≡ lowest_publishing log n from k
  pub high_is : high ≡ lowest_publishing log n (suc low) k

-- whether a cell that publishes is left above that of an entry
unfoldable pub is_more : List ℕ → ℕ → Option ℕ → Bool
is_more log m none = false
is_more log m (some k) = some? (target_in log m (suc (cell_at log k)))

-- entry i's cell is not below a cell, the entry publishes, and no entry before it has its cell
unfoldable pub first_publishes : List ℕ → ℕ → ℕ → Bool
first_publishes log i from = (leb from (cell_at log i) && publishes (entry_at log i)) && not (some? (slot_in log i (cell_at log i)))
