-- The 256 tags: which are known, and what a field of each known one is (document 01, "Call fields"; 09: document 02, Paper 4). A new tag adds its
-- row here; proofs/Worked.antt finds by computation that these are all.
-- Assumes nothing.
use Rattle.std.specs.Prelude.{ℕ, zero, suc, List, [], ◌∷◌, Option, Some, None}
use Rattle.field.specs.declared.Kind.{Kind}
use Rattle.field.specs.declared.Kind.TheVariants.{Begin, Read, Write, Seal, Advance, Abandon, StartingCell, Hold}
use Rattle.field.specs.declared.Layout.{Layout}
use Rattle.field.specs.Table.{layout, layout_of}

-- A known tag with its layout.
pub data KnownTag : Type 0 where
  known_tag : ℕ → Layout → KnownTag

-- A row from tag, kind, the body's length, and the bytes of session, class, cell and value in the body.
abbrev pub tag_row : ℕ → Kind → ℕ → ℕ → ℕ → ℕ → ℕ → KnownTag
tag_row t k n s c e v = known_tag t (layout k n s c e v)

-- The known ones among so many tags from one on, in order, each with the layout that the definitions give.
unfoldable pub if_known : ℕ → Option Layout → List KnownTag → List KnownTag
if_known t None rest = rest
if_known t (Some l) rest = known_tag t l ∷ rest

unfoldable pub known_among : ℕ → ℕ → List KnownTag
known_among zero t = []
known_among (suc more) t = if_known t (layout_of t) (known_among more (suc t))

-- All that are known; every other of the 256 is unknown.
unfoldable pub known_tags : List KnownTag
known_tags =
    -- 01 begin, with a session byte
    tag_row 0x01 Begin 1 1 0 0 0
    -- 02 read, session and two-byte cell
    ∷ tag_row 0x02 Read 3 1 0 2 0
    -- 03 write, session, two-byte cell, four-byte figure
    ∷ tag_row 0x03 Write 7 1 0 2 4
    -- 04 seal, 05 advance, 06 abandon, each with a session byte
    ∷ tag_row 0x04 Seal 1 1 0 0 0
    ∷ tag_row 0x05 Advance 1 1 0 0 0
    ∷ tag_row 0x06 Abandon 1 1 0 0 0
    -- 08 starting cell, class byte and four-byte figure
    ∷ tag_row 0x08 StartingCell 5 0 1 0 4
    -- 09 hold, session and two-byte cell
    ∷ tag_row 0x09 Hold 3 1 0 2 0
    ∷ []
