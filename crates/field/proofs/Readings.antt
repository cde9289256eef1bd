-- What the reader gives, by the way that its tests go, and the place that a refusal tells.
-- Assumes nothing.
use Prim.Native.Nat.{ℕ, ◌+◌, ◌-◌, ◌≤◌, ◌<◌}
use mathlib.Core.Path.{◌≡◌, sym, ap}
use mathlib.Core.Bool.{Bool, true, false, cond, not}
use mathlib.Core.List.{List}
use lib.ListN.{length, get_or}
use lib.Dec.{leb, ltb, eqb}
use borrow.Author.Tests.{le-leb, lt-leb, lt-ltb, le-ltb, eq-eqb, ne_eqb}
use Rattle.field.specs.declared.Kind.{Kind}
use Rattle.field.specs.declared.Layout.{Layout}
use Rattle.std.specs.Prelude.{Option, Some, None}
use Rattle.field.specs.declared.Call.{Call}
use Rattle.field.specs.LittleEndian.{number_at}
use Rattle.field.specs.Table.{layout_of}
use Rattle.field.specs.declared.Field.{Field}
use Rattle.field.specs.declared.Refused.{Refused}
use Rattle.field.specs.declared.Refusal.{Refusal}
use Rattle.field.specs.declared.Refusal.TheVariants.{CutShort, UnknownTag, WrongLength}
use Rattle.field.specs.Field.{Reading, field, end, refused, call_at, reading_of, reading_at}

module _ (bytes : List ℕ) (place : ℕ) where
  pub at_end : length bytes ≤ place → end ≡ reading_at bytes place
  unfolding reading_at
  at_end h = simp (le-leb _ _ h)

  pub short_head : place < length bytes → length bytes - place < 3 → refused CutShort place ≡ reading_at bytes place
  unfolding reading_at
  short_head i h = simp (lt-leb _ _ i, lt-ltb _ _ h)

  pub unknown : place < length bytes → 3 ≤ length bytes - place → layout_of (get_or bytes place 0) ≡ None → refused UnknownTag place ≡ reading_at bytes place
  unfolding reading_at reading_of
  unknown i h e = simp (lt-leb _ _ i, le-ltb _ _ h, e)

  module _ (l : Layout) (i : place < length bytes) (h : 3 ≤ length bytes - place) (known : layout_of (get_or bytes place 0) ≡ Some l) where
    pub other_length : (number_at bytes (place + 1) 2 ≡ l.length → ⊥) → refused WrongLength place ≡ reading_at bytes place
    unfolding reading_at reading_of
    other_length n = simp (lt-leb _ _ i, le-ltb _ _ h, known, ne_eqb _ _ n)

    pub short_body : number_at bytes (place + 1) 2 ≡ l.length → length bytes - place < 3 + l.length → refused CutShort place ≡ reading_at bytes place
    unfolding reading_at reading_of
    short_body e s = simp (lt-leb _ _ i, le-ltb _ _ h, known, eq-eqb _ _ e, lt-ltb _ _ s)

    pub accepted : number_at bytes (place + 1) 2 ≡ l.length → 3 + l.length ≤ length bytes - place → field l.kind (call_at bytes (place + 3) (get_or bytes place 0) l) (3 + l.length) ≡ reading_at bytes place
    unfolding reading_at reading_of
    accepted e f = simp (lt-leb _ _ i, le-ltb _ _ h, known, eq-eqb _ _ e, le-ltb _ _ f)

-- ---- what a reading tells

-- A field is of one kind, one call and one length.
pub same_field : {k m : Kind} {c d : Call} {n o : ℕ} → field k c n ≡ field m d o → (k ≡ m) × (c ≡ d) × (n ≡ o)
same_field {k} {m} {c} {d} {n} {o} e =
    let same : ◌≡◌ {A = Field} (record { kind = k; call = c; length = n }) (record { kind = m; call = d; length = o }) = cc in
    (ap (λ (f : Field). f.kind) same, ap (λ (f : Field). f.call) same, ap (λ (f : Field). f.length) same)

same_refused : {r s : Refusal} {p q : ℕ} → refused r p ≡ refused s q → ◌≡◌ {A = Refused} (record { refusal = r; place = p }) (record { refusal = s; place = q })
same_refused e = cc

-- ---- the place of a refusal

module _ (bytes : List ℕ) (place : ℕ) (why : Refusal) (p : ℕ) where
  -- Where a reading is this refusal, its place is the one that was asked for.
  abbrev Asked : Reading → Type 0
  Asked r = r ≡ refused why p → p ≡ place

  asked_refused : (r : Refusal) → Asked (refused r place)
  asked_refused r e = sym (ap (λ (x : Refused). x.place) (same_refused e))

  asked_field : (k : Kind) (c : Call) (m : ℕ) → Asked (field k c m)
  asked_field k c m e = cc

  asked_end : Asked end
  asked_end e = cc

  either : (b : Bool) (x y : Reading) → Asked x → Asked y → Asked (cond b x y)
  either true x y h g = h
  either false x y h g = g

  of_tag : (t : Option Layout) → Asked (reading_of t bytes place)
  unfolding reading_of
  of_tag None = asked_refused _
  of_tag (Some l) =
      either (not (eqb (number_at bytes (place + 1) 2) l.length)) _ _ (asked_refused _)
      (either (ltb (length bytes - place) (3 + l.length)) _ _ (asked_refused _) (asked_field _ _ _))

  -- A refusal comes with the place that was asked for, whatever the bytes and the place.
  pub refused_where_asked : reading_at bytes place ≡ refused why p → p ≡ place
  unfolding reading_at
  refused_where_asked =
      either (leb (length bytes) place) _ _ asked_end
      (either (ltb (length bytes - place) 3) _ _ (asked_refused _) (of_tag (layout_of (get_or bytes place 0))))
