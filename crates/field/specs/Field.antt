-- The reader and the writer of one field (document 01, "Call fields", with the order of the refusals from "When a call is turned down").
-- Assumes nothing.
use Rattle.std.specs.Prelude.{ℕ, ◌+◌, ◌-◌, List, ◌∷◌, ◌++◌, cond, not, get_or, length, drop, ltb, leb, eqb, Option, Some, None, Result, Ok, Err}
use Rattle.field.specs.declared.Layout.{Layout}
use Rattle.field.specs.declared.Call.{Call}
use Rattle.field.specs.declared.Kind.{Kind}
use Rattle.field.specs.declared.Field.{Field}
use Rattle.field.specs.declared.Refusal.{Refusal}
use Rattle.field.specs.declared.Refusal.TheVariants.{CutShort, UnknownTag, WrongLength}
use Rattle.field.specs.declared.Refused.{Refused}
use Rattle.field.specs.LittleEndian.{number_at, bytes_of}
use Rattle.field.specs.Table.{layout_of}
use Rattle.field.specs.Answer.{done, unknown_tag, short_target, number_of}

-- A call from its numbers.
abbrev pub call : ℕ → ℕ → ℕ → ℕ → ℕ → Call
call t s c e v = record { tag = t; session = s; class = c; cell = e; value = v }

-- What stands at a place: a field, with what it is, its call and its length in bytes; the end; or a refusal, with the place of the field's
-- first byte.
abbrev pub Reading : Type 0
Reading = Result (Option Field) Refused

abbrev pub field : Kind → Call → ℕ → Reading
field k c n = Ok (Some (record { kind = k; call = c; length = n }))

abbrev pub end : Reading
end = Ok None

abbrev pub refused : Refusal → ℕ → Reading
refused r place = Err (record { refusal = r; place = place })

-- The call in the body that starts at index `i`: its numbers stand one after the other, and one that takes no bytes is 0.
unfoldable pub call_at : List ℕ → ℕ → ℕ → Layout → Call
call_at bytes i t l =
    call t (number_at bytes i l.session) (number_at bytes (i + l.session) l.class)
    (number_at bytes (i + l.session + l.class) l.cell)
    (number_at bytes (i + l.session + l.class + l.cell) l.value)

-- With the three bytes before the body there: an unknown tag is refused first, then a length other than the tag's own, then a body of
-- which bytes are missing. No session, cell or value is judged.
unfoldable pub reading_of : Option Layout → List ℕ → ℕ → Reading
reading_of None bytes place = refused UnknownTag place
reading_of (Some l) bytes place =
    cond (not (eqb (number_at bytes (place + 1) 2) l.length)) (refused WrongLength place)
    (cond (ltb (length bytes - place) (3 + l.length)) (refused CutShort place)
    (field l.kind (call_at bytes (place + 3) (get_or bytes place 0) l) (3 + l.length)))

-- The field at a place: a tag byte, a two-byte length and a body. Where no byte is left, as at every place past the end, it is the end;
-- fewer than three bytes left are a field cut short. A refusal tells the place of the field's first byte.
unfoldable pub reading_at : List ℕ → ℕ → Reading
reading_at bytes place =
    cond (leb (length bytes) place) end
    (cond (ltb (length bytes - place) 3) (refused CutShort place)
    (reading_of (layout_of (get_or bytes place 0)) bytes place))

-- The body of a call: the numbers that the tag carries, one after the other. The others take no bytes, so nothing depends on them.
unfoldable pub body_of : Layout → Call → List ℕ
body_of l c =
    bytes_of l.session c.session ++ bytes_of l.class c.class ++ bytes_of l.cell c.cell ++ bytes_of l.value c.value

-- The field of a call: tag, length, body.
unfoldable pub field_of : Layout → Call → List ℕ
field_of l c = c.tag ∷ bytes_of 2 l.length ++ body_of l c

-- What writing answers, and what the target holds afterwards.
pub record WriteReply : Type 0 where
  pub number : ℕ
  pub length : ℕ
  pub target : List ℕ

abbrev pub write_reply : ℕ → ℕ → List ℕ → WriteReply
write_reply n k t = record { number = n; length = k; target = t }

-- The writer's answer, and the target, in numbers: a refusal comes with 0 in place of the length.
abbrev pub reply_of : Result ℕ Refusal → List ℕ → WriteReply
reply_of (Ok k) t = write_reply done k t
reply_of (Err r) t = write_reply (number_of r) 0 t

-- An unknown tag is refused before a target that is too short; both come with 0 in place of the length and leave the target. Otherwise the
-- field stands at the front of the target, and the bytes after it are as before.
unfoldable pub writing_of : Option Layout → List ℕ → Call → WriteReply
writing_of None target c = write_reply unknown_tag 0 target
writing_of (Some l) target c =
    cond (ltb (length target) (3 + l.length)) (write_reply short_target 0 target)
    (write_reply done (3 + l.length) (field_of l c ++ drop (3 + l.length) target))

unfoldable pub writing : List ℕ → Call → WriteReply
writing target c = writing_of (layout_of c.tag) target c
