-- Look-ups in a small log, by computation.
use Rattle.std.specs.Prelude.{ℕ, List, [], ◌∷◌, ◌++◌, ◌≡◌, replicate}
use Rattle.std.proofs.Math.Option.{Option, none, some}
use Rattle.model.specs.Buffers.{log_in, slot_in}

-- five entries, of the cells 7, 3, 7, 5 and 9; the rows count four of them, or others where they say so
abbrev pub small : List ℕ
small = 7 ∷ 2 ∷ 1 ∷ 1 ∷ 3 ∷ 7 ∷ 7 ∷ 0 ∷ 7 ∷ 2 ∷ 4 ∷ 1 ∷ 5 ∷ 6 ∷ 6 ∷ 0 ∷ 9 ∷ 8 ∷ 8 ∷ 0 ∷ []

-- a row: the first m entries of a log, a cell, and its place
abbrev pub Row : List ℕ → ℕ → ℕ → Option ℕ → Type 0
Row log m c place = slot_in log m c ≡ place

pub record Rows : Type 0 where
  -- of several entries the first
  pub several : Row small 4 7 (some 0)
  pub second : Row small 4 3 (some 1)
  pub last : Row small 4 5 (some 3)
  -- in the first word past the entries alone
  pub past : Row small 4 9 none
  pub counted : Row small 5 9 (some 4)
  -- among the other words of an entry alone
  pub not_a_cell : Row small 4 6 none
  pub nowhere : Row small 4 10 none
  pub empty : Row small 0 7 none

-- the logs of sessions 0 and 1: the cells 9 and 7, one each
abbrev pub two : List ℕ
two = (9 ∷ 1 ∷ 1 ∷ 0 ∷ replicate 124 0) ++ (7 ∷ 2 ∷ 2 ∷ 0 ∷ replicate 124 0)

pub record OwnRows : Type 0 where
  pub own : Row (log_in two 1) 1 7 (some 0)
  -- in session 0's log alone
  pub another's : Row (log_in two 1) 1 9 none
