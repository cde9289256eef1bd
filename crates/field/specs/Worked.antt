-- Worked fields in three tables, each number of the documents as a numeral: the rows under a comment show the line that it cites, of
-- document 01 where it names no other. A new tag or refusal adds its rows here; proofs/Worked.antt proves each table by computation.
-- Assumes nothing.
use Rattle.std.specs.Prelude.{ℕ, ◌-◌, List, [], ◌∷◌, ◌++◌, replicate}
use Rattle.field.specs.declared.Kind.{Kind}
use Rattle.field.specs.declared.Kind.TheVariants.{Begin, Read, Write, Seal, Advance, Abandon, StartingCell, Hold}
use Rattle.field.specs.declared.Call.{Call}
use Rattle.field.specs.declared.Refusal.{Refusal}
use Rattle.field.specs.declared.Refusal.TheVariants.{CutShort, UnknownTag, WrongLength}
use Rattle.field.specs.Field.{call, Reading, field, end, refused, reading_at, WriteReply, write_reply, writing}
use Rattle.field.specs.Exported.{Lent, lent, ReadReply, read_reply, handing}

-- The numbers that are lent to the exported reader, as they are before the call.
abbrev pub before : Lent
before = lent 21 22 23 24 25 26

-- ---- fields in both directions (document 01, "Call fields")

-- The bytes of a field, what is read from them and handed to C, and what is written into twelve bytes 0xee.
pub record FieldRow : Type 0 where
  pub bytes : List ℕ
  pub given : Call
  pub reading : Reading
  pub read_reply : ReadReply
  pub write_reply : WriteReply

-- A row from kind, bytes, the call that is read from them and the field's length. The writer is given all numbers: those that the tag does
-- not carry are ignored, and read back as 0. Session, class and cell are larger than any that the store takes: none is judged.
abbrev pub field_row : Kind → List ℕ → Call → ℕ → FieldRow
field_row k b c n =
    record {
      bytes = b;
      given = call c.tag 0xb2 0xa1 0x4321 0x89abcdef;
      reading = field k c n;
      read_reply = read_reply 100 (lent c.tag c.session c.class c.cell c.value n);
      write_reply = write_reply 100 n (b ++ replicate (12 - n) 0xee);
    }

-- The row with what the definitions give.
unfoldable pub both_ways : FieldRow → FieldRow
both_ways r =
    let found = reading_at r.bytes 0 in
    record { bytes = r.bytes; given = r.given; reading = found; read_reply = handing found before; write_reply = writing (replicate 12 0xee) r.given }

unfoldable pub fields : List FieldRow
fields =
    -- 01 begin, with a session byte
    field_row Begin (0x01 ∷ 0x01 ∷ 0x00 ∷ 0xb2 ∷ []) (call 0x01 0xb2 0 0 0) 4
    -- 02 read, session and two-byte cell
    ∷ field_row Read (0x02 ∷ 0x03 ∷ 0x00 ∷ 0xb2 ∷ 0x21 ∷ 0x43 ∷ []) (call 0x02 0xb2 0 0x4321 0) 6
    -- 03 write, session, two-byte cell, four-byte figure; multi-byte numbers are little-endian
    ∷ field_row Write (0x03 ∷ 0x07 ∷ 0x00 ∷ 0xb2 ∷ 0x21 ∷ 0x43 ∷ 0xef ∷ 0xcd ∷ 0xab ∷ 0x89 ∷ []) (call 0x03 0xb2 0 0x4321 0x89abcdef) 10
    -- 04 seal, 05 advance, 06 abandon, each with a session byte
    ∷ field_row Seal (0x04 ∷ 0x01 ∷ 0x00 ∷ 0xb2 ∷ []) (call 0x04 0xb2 0 0 0) 4
    ∷ field_row Advance (0x05 ∷ 0x01 ∷ 0x00 ∷ 0xb2 ∷ []) (call 0x05 0xb2 0 0 0) 4
    ∷ field_row Abandon (0x06 ∷ 0x01 ∷ 0x00 ∷ 0xb2 ∷ []) (call 0x06 0xb2 0 0 0) 4
    -- 08 starting cell, class byte and four-byte figure
    ∷ field_row StartingCell (0x08 ∷ 0x05 ∷ 0x00 ∷ 0xa1 ∷ 0xef ∷ 0xcd ∷ 0xab ∷ 0x89 ∷ []) (call 0x08 0 0xa1 0 0x89abcdef) 8
    -- 09 hold, session and two-byte cell, as read (document 02, Paper 4)
    ∷ field_row Hold (0x09 ∷ 0x03 ∷ 0x00 ∷ 0xb2 ∷ 0x21 ∷ 0x43 ∷ []) (call 0x09 0xb2 0 0x4321 0) 6
    ∷ []

-- ---- the reader's answers, in order (document 01, "When a call is turned down")

-- Bytes, a place, what is read there, and what the exported reader answers and leaves.
pub data ReadRow : Type 0 where
  read_row : List ℕ → ℕ → Reading → ReadReply → ReadRow

-- A refusal's row, from bytes, place, refusal and number: the place is the field's first byte, and all is as before.
abbrev pub refused_row : List ℕ → ℕ → Refusal → ℕ → ReadRow
refused_row b p r n = read_row b p (refused r p) (read_reply n before)

-- The row with what the definitions give.
unfoldable pub read_there : ReadRow → ReadRow
read_there (read_row b p r h) = read_row b p (reading_at b p) (handing (reading_at b p) before)

unfoldable pub readings : List ReadRow
readings =
    -- no bytes left is 106: none at all, at the end, past it
    read_row [] 0 end (read_reply 106 before)
    ∷ read_row (0x01 ∷ 0x01 ∷ 0x00 ∷ 0x02 ∷ []) 4 end (read_reply 106 before)
    ∷ read_row (0x01 ∷ 0x01 ∷ 0x00 ∷ 0x02 ∷ []) 5 end (read_reply 106 before)
    -- fewer than three bytes left is 10, also where the tag is unknown
    ∷ refused_row (0x01 ∷ []) 0 CutShort 10
    ∷ refused_row (0x01 ∷ 0x07 ∷ 0x00 ∷ []) 1 CutShort 10
    -- then 11: the tags beside those that are known, and the last
    ∷ refused_row (0x00 ∷ 0x01 ∷ 0x00 ∷ 0x02 ∷ []) 0 UnknownTag 11
    ∷ refused_row (0x07 ∷ 0x01 ∷ 0x00 ∷ 0x02 ∷ []) 0 UnknownTag 11
    ∷ refused_row (0x0a ∷ 0x01 ∷ 0x00 ∷ 0x02 ∷ []) 0 UnknownTag 11
    ∷ refused_row (0xff ∷ 0x01 ∷ 0x00 ∷ 0x02 ∷ []) 0 UnknownTag 11
    -- 11 whatever the length, and with no body
    ∷ refused_row (0x01 ∷ 0x01 ∷ 0x00 ∷ 0x02 ∷ 0x07 ∷ 0xff ∷ 0xff ∷ []) 4 UnknownTag 11
    -- then 12: one less and one more than the tag's own, and more by the second byte
    ∷ refused_row (0x02 ∷ 0x02 ∷ 0x00 ∷ 0x02 ∷ 0x05 ∷ 0x00 ∷ 0x00 ∷ []) 0 WrongLength 12
    ∷ refused_row (0x02 ∷ 0x04 ∷ 0x00 ∷ 0x02 ∷ 0x05 ∷ 0x00 ∷ 0x00 ∷ []) 0 WrongLength 12
    ∷ refused_row (0x02 ∷ 0x03 ∷ 0x01 ∷ 0x02 ∷ 0x05 ∷ 0x00 ∷ 0x00 ∷ []) 0 WrongLength 12
    ∷ refused_row (0x09 ∷ 0x02 ∷ 0x00 ∷ 0x02 ∷ 0x05 ∷ 0x00 ∷ 0x00 ∷ []) 0 WrongLength 12
    ∷ refused_row (0x09 ∷ 0x04 ∷ 0x00 ∷ 0x02 ∷ 0x05 ∷ 0x00 ∷ 0x00 ∷ []) 0 WrongLength 12
    ∷ refused_row (0x09 ∷ 0x03 ∷ 0x01 ∷ 0x02 ∷ 0x05 ∷ 0x00 ∷ 0x00 ∷ []) 0 WrongLength 12
    -- 12 also with no body
    ∷ refused_row (0xff ∷ 0x03 ∷ 0x08 ∷ 0x00 ∷ []) 1 WrongLength 12
    -- then a short body 10: its last byte is missing, or all of it
    ∷ refused_row (0x03 ∷ 0x07 ∷ 0x00 ∷ 0x02 ∷ 0x05 ∷ 0x00 ∷ 0x2a ∷ 0x00 ∷ 0x00 ∷ []) 0 CutShort 10
    ∷ refused_row (0x09 ∷ 0x03 ∷ 0x00 ∷ 0x02 ∷ 0x05 ∷ []) 0 CutShort 10
    ∷ refused_row (0xff ∷ 0xff ∷ 0x01 ∷ 0x01 ∷ 0x00 ∷ []) 2 CutShort 10
    -- else 100, with bytes before and after the field
    ∷ read_row (0xff ∷ 0x03 ∷ 0x07 ∷ 0x00 ∷ 0x02 ∷ 0x05 ∷ 0x00 ∷ 0x2a ∷ 0x00 ∷ 0x00 ∷ 0x00 ∷ 0xff ∷ []) 1 (field Write (call 3 2 0 5 42) 10)
    (read_reply 100 (lent 3 2 0 5 42 10))
    ∷ read_row (0xff ∷ 0x09 ∷ 0x03 ∷ 0x00 ∷ 0x02 ∷ 0x05 ∷ 0x00 ∷ 0xff ∷ []) 1 (field Hold (call 9 2 0 5 0) 6) (read_reply 100 (lent 9 2 0 5 0 6))
    ∷ []

-- ---- the writer's answers, in order (the same section)

-- A target, a call, and what is answered and left.
pub data WriteRow : Type 0 where
  write_row : List ℕ → Call → WriteReply → WriteRow

-- The row with what the definition gives.
unfoldable pub written_there : WriteRow → WriteRow
written_there (write_row t c w) = write_row t c (writing t c)

unfoldable pub writings : List WriteRow
writings =
    -- an unknown tag is 11, with 0 in place of the length and the target as before
    write_row (replicate 12 0xee) (call 0 2 0 0 0) (write_reply 11 0 (replicate 12 0xee))
    ∷ write_row (replicate 12 0xee) (call 7 2 0 0 0) (write_reply 11 0 (replicate 12 0xee))
    ∷ write_row (replicate 12 0xee) (call 10 2 0 0 0) (write_reply 11 0 (replicate 12 0xee))
    -- tested before 13
    ∷ write_row [] (call 7 2 0 0 0) (write_reply 11 0 [])
    ∷ write_row (replicate 2 0xee) (call 7 2 0 0 0) (write_reply 11 0 (replicate 2 0xee))
    -- a target shorter than the field is 13, with 0 in place of the length and the target as before
    ∷ write_row [] (call 1 2 0 0 0) (write_reply 13 0 [])
    ∷ write_row (replicate 3 0xee) (call 1 2 0 0 0) (write_reply 13 0 (replicate 3 0xee))
    ∷ write_row (replicate 9 0xee) (call 3 2 0 5 42) (write_reply 13 0 (replicate 9 0xee))
    ∷ write_row (replicate 5 0xee) (call 9 2 0 5 0) (write_reply 13 0 (replicate 5 0xee))
    -- else 100 with the field's length, here in a target of just that length
    ∷ write_row (replicate 10 0xee) (call 3 2 0 5 42) (write_reply 100 10 (0x03 ∷ 0x07 ∷ 0x00 ∷ 0x02 ∷ 0x05 ∷ 0x00 ∷ 0x2a ∷ 0x00 ∷ 0x00 ∷ 0x00 ∷ []))
    ∷ write_row (replicate 6 0xee) (call 9 2 0 5 0) (write_reply 100 6 (0x09 ∷ 0x03 ∷ 0x00 ∷ 0x02 ∷ 0x05 ∷ 0x00 ∷ []))
    ∷ []
