-- The table of tags (document 01, "Call fields"; hold's: document 02, Paper 4).
-- Assumes nothing.
use Rattle.std.specs.Prelude.{ℕ, ◌+◌, ◌≡◌, List, [], ◌∷◌, cond, eqb, Option, Some, None}
use Rattle.little_endian.specs.LittleEndian.{Whole}
use Rattle.field.specs.declared.Kind.{Kind}
use Rattle.field.specs.declared.Kind.TheVariants.{Begin, Read, Write, Seal, Advance, Abandon, StartingCell, Hold}
use Rattle.field.specs.declared.Layout.{Layout}

-- A layout, from a kind, a body's length and the bytes that a session, a class, a cell and a value take in the body, in this order.
abbrev pub layout : Kind → ℕ → ℕ → ℕ → ℕ → ℕ → Layout
layout k n s c e v = record { kind = k; length = n; session = s; class = c; cell = e; value = v }

pub record Row : Type 0 where
  pub tag : ℕ
  pub layout : Layout

-- A tag with its layout. The body's length, which is the tag's own, is the sum of what the numbers take.
abbrev pub row : ℕ → Kind → ℕ → ℕ → ℕ → ℕ → Row
row t k s c e v = record { tag = t; layout = layout k (s + c + e + v) s c e v }

-- Begin, seal, advance and abandon carry a session byte; read and hold a session and a two-byte cell; write these and a four-byte value; a
-- starting cell a class byte and a four-byte value.
unfoldable pub table : List Row
table =
    row 0x01 Begin 1 0 0 0
    ∷ row 0x02 Read 1 0 2 0
    ∷ row 0x03 Write 1 0 2 4
    ∷ row 0x04 Seal 1 0 0 0
    ∷ row 0x05 Advance 1 0 0 0
    ∷ row 0x06 Abandon 1 0 0 0
    ∷ row 0x08 StartingCell 0 1 0 4
    ∷ row 0x09 Hold 1 0 2 0
    ∷ []

-- The layout in the first of some rows that has the tag.
unfoldable pub find : ℕ → List Row → Option Layout
find t [] = None
find t (r ∷ rows) = cond (eqb t r.tag) (Some r.layout) (find t rows)

-- A tag's layout; a tag that the table lacks is unknown.
unfoldable pub layout_of : ℕ → Option Layout
layout_of t = find t table

-- What the code relies on in a layout. It is no rule of its own: every row of the table has it (`proofs/Rows.antt`).
pub record Proper (l : Layout) : Type 0 where
  pub session : Whole 1 l.session
  pub class : Whole 1 l.class
  pub cell : Whole 2 l.cell
  pub value : Whole 4 l.value
  pub length : l.length ≡ l.session + l.class + l.cell + l.value
