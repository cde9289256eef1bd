-- What looking a cell up answers, entry by entry (document 02, Paper 3). The contracts of the searches for a cell cite the model (`found r ≡ slot_in log m c`); proofs/FirstEntry.antt
-- proves that it is the same.
use Rattle.std.specs.Prelude.{ℕ, ◌<◌, List, ◌≡◌, Option, Some, None}
use Rattle.model.specs.Buffers.{cell_at}

-- place k is that of the cell's first entry among the first m
pub record FirstEntry (log : List ℕ) (m c k : ℕ) : Type 0 where
  pub among : k < m
  pub has_cell : cell_at log k ≡ c
  pub none_before : (j : ℕ) → j < k → cell_at log j ≡ c → ⊥

-- none of the first m entries has the cell
abbrev pub NoEntry : List ℕ → ℕ → ℕ → Type 0
NoEntry log m c = (j : ℕ) → j < m → cell_at log j ≡ c → ⊥

-- a search's answer: the place of the first entry, or that there is none
abbrev pub IsPlace : List ℕ → ℕ → ℕ → Option ℕ → Type 0
IsPlace log m c (Some k) = FirstEntry log m c k
IsPlace log m c None = NoEntry log m c

-- two logs whose first m entries have the same cells, whatever their other words and those past these entries are
abbrev pub SameCells : ℕ → List ℕ → List ℕ → Type 0
SameCells m log other = (j : ℕ) → j < m → cell_at log j ≡ cell_at other j
