-- The worked fields give what they must, by computation from the definitions.
-- Assumes nothing.
use Prim.Native.Nat.{ℕ}
use mathlib.Core.Path.{◌≡◌, refl}
use mathlib.Core.List.{List, [], ◌∷◌, map}
use lib.ListN.{replicate}
use Rattle.field.specs.declared.Kind.TheVariants.{Begin, StartingCell, Hold}
use Rattle.field.specs.declared.Call.{Call}
use Rattle.field.specs.LittleEndian.{number, number_at, bytes_of}
use Rattle.field.specs.Table.{table, find, layout_of}
use Rattle.field.specs.Field.{call, call_at, reading_of, reading_at, body_of, field_of, writing_of, writing}
use Rattle.field.specs.Exported.{handing}
use Rattle.field.specs.RoundTrip.{Reads, ends, goes, writes}
use Rattle.field.specs.Tags.{if_known, known_among, known_tags}
use Rattle.field.specs.Worked.{FieldRow, both_ways, fields, ReadRow, read_there, readings, WriteRow, written_there, writings}

-- Of the 256 tags these are known, each with its layout, and no other.
pub tags_hold : known_among 256 0 ≡ known_tags
unfolding known_among if_known known_tags layout_of find table
tags_hold = refl

pub fields_hold : map {B = FieldRow} both_ways fields ≡ fields
unfolding both_ways fields reading_at reading_of call_at handing writing writing_of field_of body_of layout_of find table number_at number bytes_of
fields_hold = refl

pub readings_hold : map {B = ReadRow} read_there readings ≡ readings
unfolding read_there readings reading_at reading_of call_at handing layout_of find table number_at number
readings_hold = refl

pub writings_hold : map {B = WriteRow} written_there writings ≡ writings
unfolding written_there writings writing writing_of field_of body_of layout_of find table bytes_of
writings_hold = refl

-- A file of three fields: a starting cell of class 2 with value 3, a begin of session 1, and its hold of cell 0.
abbrev file : List ℕ
file = 0x08 ∷ 0x05 ∷ 0x00 ∷ 0x02 ∷ 0x03 ∷ 0x00 ∷ 0x00 ∷ 0x00 ∷ 0x01 ∷ 0x01 ∷ 0x00 ∷ 0x01 ∷ 0x09 ∷ 0x03 ∷ 0x00 ∷ 0x01 ∷ 0x00 ∷ 0x00 ∷ []

abbrev listed : List Call
listed = call 8 0 2 0 3 ∷ call 1 1 0 0 0 ∷ call 9 1 0 0 0 ∷ []

-- It has a reading, and written again it is the file.
pub three_fields : Reads file 0 listed
unfolding reading_at reading_of call_at layout_of find table number_at number
three_fields = goes {n = 8} {k = StartingCell} refl (goes {n = 4} {k = Begin} refl (goes {n = 6} {k = Hold} refl (ends refl)))

pub three_fields_back : writes listed (replicate 18 0xee) ≡ file
unfolding writes writing writing_of field_of body_of layout_of find table bytes_of
three_fields_back = refl
