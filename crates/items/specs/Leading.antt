-- What `read_cells` leaves: the cells that lead the input. Nothing here is part of what the replay promises.
use Rattle.std.specs.Prelude.{ℕ, ◌≤◌, ◌≡◌, List, length, take, Option, Some, None, Ok, Err}
use Rattle.items.specs.declared.Cell.{Cell}
use Rattle.items.specs.declared.Cells.{Cells}
use Rattle.items.specs.declared.Next.TheVariants as next
use Rattle.items.specs.Items.{Standing, items_at, values, classes, later}

-- the starting cell that stands at a place, if one does
unfoldable pub cell_of : Standing → Option Cell
cell_of (Ok (Some (next.Cell c))) = Some c
cell_of (Ok (Some (next.Call k n))) = None
cell_of (Ok None) = None
cell_of (Err r) = None

-- the leading cells of the input, at the front of vs and ks, and the place of the field that closes them; or more than 1,024
pub record Leading (input vs ks : List ℕ) (n place : ℕ) : Type 0 where
  pub cells : values (items_at input 0) ≡ take n vs
  pub kinds : classes (items_at input 0) ≡ take n ks
  pub closed : later (items_at input 0) ≡ items_at input place
  pub few : n ≤ 1024
  pub inside : place ≤ length input

abbrev pub ReadCells : List ℕ → List ℕ → List ℕ → Option Cells → Type 0
ReadCells input vs ks (Some c) = Leading input vs ks c.count c.place
ReadCells input vs ks None = 1025 ≤ length (values (items_at input 0))
