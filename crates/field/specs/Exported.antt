-- What the exported reader answers to C, and what it leaves in the numbers that it was lent.
-- Assumes nothing.
use Rattle.std.specs.Prelude.{ℕ, Some, None, Ok, Err}
use Rattle.field.specs.Answer.{done, end_of_fields, number_of}
use Rattle.field.specs.Field.{Reading}

-- The lent numbers.
pub record Lent : Type 0 where
  pub tag : ℕ
  pub session : ℕ
  pub class : ℕ
  pub cell : ℕ
  pub value : ℕ
  pub length : ℕ

abbrev pub lent : ℕ → ℕ → ℕ → ℕ → ℕ → ℕ → Lent
lent t s c e v n = record { tag = t; session = s; class = c; cell = e; value = v; length = n }

pub record ReadReply : Type 0 where
  pub number : ℕ
  pub left : Lent

abbrev pub read_reply : ℕ → Lent → ReadReply
read_reply n o = record { number = n; left = o }

-- A field puts its numbers and its length into the lent numbers. The end and a refusal leave them as before.
unfoldable pub handing : Reading → Lent → ReadReply
handing (Ok (Some f)) o = read_reply done (lent f.call.tag f.call.session f.call.class f.call.cell f.call.value f.length)
handing (Ok None) o = read_reply end_of_fields o
handing (Err r) o = read_reply (number_of r.refusal) o
