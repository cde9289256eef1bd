-- The lines of the cells from one cell on.
use Prim.Native.Nat.{ℕ, ◌+◌, ◌≤◌, ◌<◌}
use native.Mathlib.Numerals.{add-one}
use mathlib.Core.Path.{◌≡◌}
use mathlib.Core.List.{List, [], ◌++◌}
use lib.ListN.{length, drop, get_or, drop_of_length-le}
use lib.Seq.{drop-cons}
use Rattle.replay_text.specs.Lines.{cell_line, cell_lines}

pub cells_more : (i : ℕ) (vs : List ℕ) → i < length vs → cell_lines i (drop i vs) ≡ cell_line i (get_or vs i 0) ++ cell_lines (i + 1) (drop (i + 1) vs)
unfolding cell_lines
cells_more i vs h = rw (add-one, drop-cons vs i 0 h)

pub cells_none : (i : ℕ) (vs : List ℕ) → length vs ≤ i → cell_lines i (drop i vs) ≡ []
unfolding cell_lines
cells_none i vs h = rw (drop_of_length-le vs h)
