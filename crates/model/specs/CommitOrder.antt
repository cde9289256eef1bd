-- Whole transactions by commit place, beside demand 3 (document 02, Paper 4): where each that wrote or held a cell also wrote or held every cell that it read from
-- the store, they read what one after the other would, and each that did so does by itself; and once nobody publishes the store has what one after the other would leave.
use Rattle.std.specs.Prelude.{ℕ, ◌<◌, ◌≡◌, ◌⊎◌, true, cond, List, [], ◌∷◌, length, get_or}
use Rattle.model.specs.Buffers.{Store}
use Rattle.model.specs.Effects.{record_of}
use Rattle.model.specs.History.{Item, Name, wrote, value_written, cells_written, reads_before_writing, starting_value}
use Rattle.model.specs.Isolation.{All, Any, at, Commits, commit_of}
use Rattle.model.specs.Told.{got, ReadOf}

-- of the starting values and what a list of actions tells
module _ (first : List ℕ) (h : List Item) where
  -- ---- the order

  -- each commits after all that follow it in the list
  abbrev pub NewestFirst : List Name → Type 0
  NewestFirst [] = Unit
  NewestFirst (x ∷ xs) = All (λ (y : Name). commit_of first h y < commit_of first h x) xs × NewestFirst xs

  -- the committed transactions, each once, by commit place; one that wrote and held nothing commits with its seal
  pub record ByCommit (xs : List Name) : Type 0 where
    pub committed : All (Commits first h) xs
    pub every : (x : Name) → Commits first h x → Any (λ (y : Name). y ≡ x) xs
    pub newest_first : NewestFirst xs

  -- ---- one after the other

  -- the value of a cell after these, each whole: where it wrote or held the cell it leaves its value there, and elsewhere what was
  abbrev pub value_after : List Name → ℕ → ℕ
  value_after [] c = starting_value first c
  value_after (x ∷ xs) c = cond (wrote (at first h x) c) (value_written (at first h x) c) (value_after xs c)

  -- each read, before writing, what those before it left
  abbrev pub ReadsInOrder : List Name → Type 0
  ReadsInOrder [] = Unit
  ReadsInOrder (x ∷ xs) = All (λ (r : ReadOf). r.value ≡ value_after xs r.cell) (reads_before_writing (at first h x)) × ReadsInOrder xs

  -- the condition: it wrote and held nothing, or wrote or held each cell that it read before writing; a value written back, and not held, is no write here (`wrote`)
  abbrev pub CoversReads : Name → Type 0
  CoversReads x =
      (cells_written (length first) (at first h x) ≡ 0) ⊎ All (λ (r : ReadOf). wrote (at first h x) r.cell ≡ true) (reads_before_writing (at first h x))

  -- each that meets it read, before writing, what those before it left, whatever the others are
  abbrev pub CoveredInOrder : List Name → Type 0
  CoveredInOrder [] = Unit
  CoveredInOrder (x ∷ xs) =
      (CoversReads x → All (λ (r : ReadOf). r.value ≡ value_after xs r.cell) (reads_before_writing (at first h x))) × CoveredInOrder xs

  -- one way to meet it, whatever is written: no value was got by a read, of one cell or of many, so that all were by holds (`holds_cover`)
  abbrev pub ReadsByHolds : Name → Type 0
  ReadsByHolds x = All (λ (i : Item). (c v : ℕ) → i.told ≡ got c v → ⊥) (at first h x)

-- no session is in phase 3
abbrev pub NonePublishing : Store → Type 0
NonePublishing σ = (s : ℕ) → (record_of σ s).phase ≡ 3 → ⊥

-- of the starting values, what a list of actions tells, and the store that it leaves; `in_commit_order` proves it of what a set-up answered 100 left, and
-- `in_commit_order_of_code` of what code was answered and left
pub record InCommitOrder (first : List ℕ) (h : List Item) (τ : Store) : Type 0 where
  pub order : List Name
  pub by_commit : ByCommit first h order
  -- each of which the condition holds read what one after the other would
  pub covered : CoveredInOrder first h order
  -- so where it holds of all, all did
  pub reads : ((x : Name) → Commits first h x → CoversReads first h x) → ReadsInOrder first h order
  -- and the store has what one after the other would leave, whether it holds or not
  pub left : NonePublishing τ → (c : ℕ) → c < length first → get_or τ.lent.values c 0 ≡ value_after first h order c
