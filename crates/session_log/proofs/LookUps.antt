-- The rows of specs/LookUps.antt; and answers and words that the statements of specs/FirstEntry.antt exclude.
use mathlib.Core.Option.{some}
use mathlib.Core.Path.{◌≡◌, refl}
use lib.ListN.{set}
use lib.Dec.{lit<}
use Rattle.std.specs.Prelude.{Some, None}
use Rattle.model.specs.Buffers.{log_in, word, cell_at, slot_in}
use Rattle.model.specs.Search.{find, or_else}
use Rattle.session_log.specs.FirstEntry.{IsPlace}
use Rattle.session_log.specs.LookUps.{small, Rows, OwnRows}

pub rows_hold : Rows
unfolding slot_in find or_else cell_at word
rows_hold = record { several = refl; second = refl; last = refl; past = refl; counted = refl; not_a_cell = refl; nowhere = refl; empty = refl }

pub own_rows_hold : OwnRows
unfolding log_in slot_in find or_else cell_at word
own_rows_hold = record { own = refl; another's = refl }

-- a later entry of the cell is not its place; nor is none the answer
pub not_the_last : IsPlace small 4 7 (Some 2) → ⊥
unfolding cell_at word
not_the_last w = w.none_before 0 (lit< tt) refl

pub not_absent : IsPlace small 4 7 None → ⊥
unfolding cell_at word
not_absent w = w 0 (lit< tt) refl

-- the cell of one of the entries does play a part
pub cell_decides : slot_in (set small 0 1) 4 7 ≡ some 2
unfolding slot_in find or_else cell_at word
cell_decides = refl
