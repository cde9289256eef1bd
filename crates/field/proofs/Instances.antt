-- What the theorems on fields are about: their hypotheses hold up to the edges of what reader and writer can be handed, and the theorems are
-- used there. A hypothesis made stronger is refused here; one made weaker is refused where the theorems use it.
-- Assumes nothing.
use Prim.Native.Nat.{ℕ, zero, suc, ◌+◌, ◌≤◌}
use native.Mathlib.Omega.{arith}
use mathlib.Core.Path.{◌≡◌, refl}
use mathlib.Core.Bool.{Bool, true, ◌&&◌}
use mathlib.Core.List.{List, [], ◌∷◌}
use lib.ListN.{length, replicate}
use lib.Dec.{T, ltb, ltb→lt}
use mir.ValLaws.{and_both}
use Rattle.field.specs.declared.Kind.{Kind}
use Rattle.field.specs.declared.Kind.TheVariants.{Write, StartingCell}
use Rattle.field.specs.declared.Call.{Call}
use Rattle.field.specs.Table.{layout, table, find, layout_of}
use Rattle.field.specs.Field.{call, field, end, reading_at, writing_of, writing}
use Rattle.field.specs.RoundTrip.{Bytes, Fitting, carried, Reads, ends, goes, writes}
use Rattle.field.proofs.RoundTrip.{reads_back}
use Rattle.field.proofs.Files.{file_back}
use Rattle.field.proofs.Worked.{three_fields}

-- A byte for session and class, two bytes for the cell and four for the value are enough.
pub fits : (c : Call) → c.session ≤ 255 → c.class ≤ 255 → c.cell ≤ 65535 → c.value ≤ 4294967295 → Fitting c
fits c s k e v = record { session = omega arith; class = omega arith; cell = omega arith; value = omega arith }

-- The call of the largest numbers, with any tag.
abbrev largest : ℕ → Call
largest t = call t 255 255 65535 4294967295

pub largest_fits : (t : ℕ) → Fitting (largest t)
largest_fits t = fits (largest t) (omega arith) (omega arith) (omega arith) (omega arith)

-- Written and read back: as a write, without its class; as a starting cell, without session and cell.
pub largest_write : reading_at (writing (replicate 12 0xee) (largest 3)).target 0 ≡ field Write (call 3 255 0 65535 4294967295) 10
unfolding layout_of find table carried writing writing_of
largest_write = reads_back (replicate 12 0xee) (largest 3) (layout Write 7 1 0 2 4) (largest_fits 3) refl refl

pub largest_cell : reading_at (writing (replicate 12 0xee) (largest 8)).target 0 ≡ field StartingCell (call 8 0 255 0 4294967295) 8
unfolding layout_of find table carried writing writing_of
largest_cell = reads_back (replicate 12 0xee) (largest 8) (layout StartingCell 5 0 1 0 4) (largest_fits 8) refl refl

-- Each of a list is below 256.
abbrev all_bytes : List ℕ → Bool
all_bytes [] = true
all_bytes (b ∷ bs) = ltb b 256 && all_bytes bs

pub are_bytes : (bs : List ℕ) → T (all_bytes bs) → Bytes bs
are_bytes [] h i = omega arith
are_bytes (b ∷ bs) h zero = ltb→lt b 256 (and_both (ltb b 256) (all_bytes bs) h).0
are_bytes (b ∷ bs) h (suc i) = are_bytes bs (and_both (ltb b 256) (all_bytes bs) h).1 i

-- Nothing more is asked of a reading than what the reader says at each place.
pub reads_end : (bytes : List ℕ) (place : ℕ) → reading_at bytes place ≡ end → Reads bytes place []
reads_end bytes place e = ends e

pub reads_on : (bytes : List ℕ) (place n : ℕ) (k : Kind) (c : Call) (cs : List Call) → reading_at bytes place ≡ field k c n → Reads bytes (place + n) cs
    → Reads bytes place (c ∷ cs)
reads_on bytes place n k c cs e r = goes e r

-- The file of three fields whose reading is `three_fields` (Worked), and the calls of that reading.
abbrev file : List ℕ
file = 0x08 ∷ 0x05 ∷ 0x00 ∷ 0x02 ∷ 0x03 ∷ 0x00 ∷ 0x00 ∷ 0x00 ∷ 0x01 ∷ 0x01 ∷ 0x00 ∷ 0x01 ∷ 0x09 ∷ 0x03 ∷ 0x00 ∷ 0x01 ∷ 0x00 ∷ 0x00 ∷ []

abbrev listed : List Call
listed = call 8 0 2 0 3 ∷ call 1 1 0 0 0 ∷ call 9 1 0 0 0 ∷ []

-- The largest byte, and that file, are bytes; the file is written again into any target of its length.
pub largest_byte : Bytes (0xff ∷ [])
largest_byte = are_bytes (0xff ∷ []) tt

pub three_fields_again : (target : List ℕ) → length target ≡ 18 → writes listed target ≡ file
three_fields_again target room = file_back file listed (are_bytes file tt) three_fields target room
