-- What the theorems on fields speak of: bytes, numbers that fit their types, a call without the numbers that its tag does not carry, and
-- files of fields.
-- Assumes nothing.
use Rattle.std.specs.Prelude.{ℕ, ◌+◌, ◌<◌, ◌≡◌, List, [], ◌∷◌, ◌++◌, cond, get_or, take, drop, eqb}
use Rattle.field.specs.declared.Kind.{Kind}
use Rattle.field.specs.declared.Layout.{Layout}
use Rattle.field.specs.declared.Call.{Call}
use Rattle.field.specs.Field.{call, field, end, reading_at, writing}

-- Every element is a byte.
abbrev pub Bytes : List ℕ → Type 0
Bytes bytes = (i : ℕ) → get_or bytes i 0 < 256

-- The numbers of a call fit the types in which the writer takes them.
pub record Fitting (c : Call) : Type 0 where
  pub session : c.session < 256
  pub class : c.class < 256
  pub cell : c.cell < 65536
  pub value : c.value < 4294967296

-- A number that takes no bytes is dropped to 0.
abbrev pub kept : ℕ → ℕ → ℕ
kept w x = cond (eqb w 0) 0 x

-- The call with every number that its tag does not carry as 0.
unfoldable pub carried : Layout → Call → Call
carried l c = call c.tag (kept l.session c.session) (kept l.class c.class) (kept l.cell c.cell) (kept l.value c.value)

-- Read field by field from a place on, the file gives these calls, each from where the one before it ended, and then its end.
pub data Reads : List ℕ → ℕ → List Call → Type 0 where
  ends : {file : List ℕ} {place : ℕ} → reading_at file place ≡ end → Reads file place []
  goes : {file : List ℕ} {place n : ℕ} {k : Kind} {c : Call} {cs : List Call} → reading_at file place ≡ field k c n → Reads file (place + n) cs → Reads file place (c ∷ cs)

-- Calls written one after the other, each by the writer into what is left of the target.
unfoldable pub writes : List Call → List ℕ → List ℕ
writes [] target = target
writes (c ∷ cs) target =
    take (writing target c).length (writing target c).target ++ writes cs (drop (writing target c).length (writing target c).target)
