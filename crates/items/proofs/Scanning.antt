-- The items of an input, step by step: each field lies inside the input and takes at least four bytes, so the count of items that `items_at` allows
-- is never used up, and what stands at a place says what the items from there on are.
use Prim.Native.Nat.{ℕ, zero, suc, ◌+◌, ◌≤◌, ◌<◌}
use native.Mathlib.Omega.{arith}
use native.Mathlib.Numerals.{add-one}
use mathlib.Core.Path.{◌≡◌, refl, sym, ◌∙◌, ap, subst}
use mathlib.Core.Bool.{Bool, true, false, cond, ◌&&◌}
use mathlib.Core.List.{List, [], ◌∷◌, ◌++◌, append-nil, append_assoc}
use lib.Dec.{T, leb, eqb}
use lib.ListN.{length, take, set, length-append}
use lib.Seq.{take-suc-set, length-take-le}
use borrow.Author.Tests.{leb-true}
use Rattle.field.specs.declared.Kind.{Kind}
use Rattle.field.specs.declared.Kind.TheVariants as kind
use Rattle.field.specs.declared.Call.{Call as Numbers}
use Rattle.field.specs.declared.Layout.{Layout}
use Rattle.std.specs.Prelude.{Option, Some, None, Ok, Err}
use Rattle.field.specs.Field.{Reading, reading_at}
use Rattle.field.specs.Table.{Row, table, find, layout_of}
use Rattle.field.proofs.Readings.{at_end}
use Rattle.field.proofs.RoundTrip.{found}
use Rattle.items.specs.declared.Next.TheVariants as next
use Rattle.items.specs.Items.{Standing, next_of_field, next_of, Item, cell, asked, following, items_within, items_at, values, classes, later}
use Rattle.items.specs.declared.Cell.{Cell}
use Rattle.items.specs.Leading.{cell_of, Leading}

-- ---- every field has a body

abbrev all_long : List Row → Bool
all_long [] = true
all_long (r ∷ rows) = leb 1 r.layout.length && all_long rows

long_or : (b d : Bool) (l m : Layout) (rest : Option Layout) → T (leb 1 m.length && d) → cond b (Some m) rest ≡ Some l → (T d → rest ≡ Some l → 1 ≤ l.length) → 1 ≤ l.length
long_or b d l m rest h e f = split (leb 1 m.length) refl h b e
  where
    split : (a : Bool) → leb 1 m.length ≡ a → T (a && d) → (b : Bool) → cond b (Some m) rest ≡ Some l → 1 ≤ l.length
    split true y h true e = let same : m ≡ l = cc in subst (λ (x : Layout). 1 ≤ x.length) same (leb-true 1 m.length y)
    split true y h false e = f h e
    split false y h b e = absurd h

long_in : (t : ℕ) (rows : List Row) (l : Layout) → T (all_long rows) → find t rows ≡ Some l → 1 ≤ l.length
unfolding find
long_in t [] l h e = absurd cc
long_in t (r ∷ rows) l h e = long_or (eqb t r.tag) (all_long rows) l r.layout (find t rows) h e (long_in t rows l)

long : (t : ℕ) (l : Layout) → layout_of t ≡ Some l → 1 ≤ l.length
unfolding layout_of table
long t l e = long_in t table l tt e

-- ---- what stands at a place

-- n bytes from the place on lie inside, and are at least four
pub record Inside (bytes : List ℕ) (place n : ℕ) : Type 0 where
  pub inside : place + n ≤ length bytes
  pub four : 4 ≤ n

abbrev pub Advances : List ℕ → ℕ → Standing → Type 0
Advances bytes place (Ok (Some (next.Cell c))) = Inside bytes place c.length
Advances bytes place (Ok (Some (next.Call k n))) = Inside bytes place n
Advances bytes place (Ok None) = Unit
Advances bytes place (Err r) = Unit

module _ (bytes : List ℕ) (place : ℕ) where
  by_kind : (k : Kind) (x : Numbers) (n : ℕ) → Inside bytes place n → Advances bytes place (Ok (Some (next_of_field k x n)))
  unfolding next_of_field
  by_kind kind.Begin x n h = h
  by_kind kind.Read x n h = h
  by_kind kind.Write x n h = h
  by_kind kind.Seal x n h = h
  by_kind kind.Advance x n h = h
  by_kind kind.Abandon x n h = h
  by_kind kind.StartingCell x n h = h
  by_kind kind.Hold x n h = h

  by_reading : (r : Reading) → reading_at bytes place ≡ r → Advances bytes place (next_of r)
  unfolding next_of
  by_reading (Ok (Some r)) e =
      let f = found bytes place r.kind r.call r.length e in
      by_kind r.kind r.call r.length (record { inside = omega (arith, f.inside, f.long); four = omega (arith, f.long, long _ _ f.known) })
  by_reading (Ok None) e = tt
  by_reading (Err r) e = tt

  pub advances : Advances bytes place (next_of (reading_at bytes place))
  advances = by_reading (reading_at bytes place) refl

-- ---- the count of items is never used up

module _ (bytes : List ℕ) where
  following_same : (place : ℕ) (x : Standing) (f g : ℕ → List Item) → Advances bytes place x → ((n : ℕ) → 4 ≤ n → f (place + n) ≡ g (place + n)) → following place x f ≡ following place x g
  unfolding following
  following_same place (Ok (Some (next.Cell c))) f g a h = ap (λ (r : List Item). cell place c.class c.value ∷ r) (h c.length a.four)
  following_same place (Ok (Some (next.Call k n))) f g a h = ap (λ (r : List Item). asked k ∷ r) (h n a.four)
  following_same place (Ok None) f g a h = refl
  following_same place (Err r) f g a h = refl

  none_past : (k place : ℕ) → length bytes ≤ place → items_within k bytes place ≡ []
  unfolding items_within next_of following
  none_past zero place h = refl
  none_past (suc k) place h = rw (← at_end bytes place h)

  same : (j k place : ℕ) → length bytes ≤ place + j → length bytes ≤ place + k → items_within j bytes place ≡ items_within k bytes place
  unfolding items_within
  same zero k place h i = sym (none_past k place (omega arith))
  same (suc j) zero place h i = none_past (suc j) place (omega arith)
  same (suc j) (suc k) place h i =
      following_same place (next_of (reading_at bytes place)) (items_within j bytes) (items_within k bytes) (advances bytes place) (λ n f. same j k (place + n) (omega arith) (omega arith))

  step_within : (m place : ℕ) → length bytes ≤ m → items_within m bytes place ≡ following place (next_of (reading_at bytes place)) (items_within m bytes)
  unfolding items_within next_of following
  step_within zero place h = rw (← at_end bytes place (omega arith))
  step_within (suc m) place h =
      following_same place (next_of (reading_at bytes place)) (items_within m bytes) (items_within (suc m) bytes) (advances bytes place) (λ n f. same m (suc m) (place + n) (omega arith) (omega arith))

  -- the items from a place on, with no count
  pub items_step : (place : ℕ) → items_at bytes place ≡ following place (next_of (reading_at bytes place)) (items_at bytes)
  unfolding items_at
  items_step place = step_within (length bytes) place (omega arith)

  -- the same, by what stands at the place
  pub items_by : (place : ℕ) (x : Standing) → x ≡ next_of (reading_at bytes place) → items_at bytes place ≡ following place x (items_at bytes)
  items_by place x e = items_step place ∙ ap (λ (y : Standing). following place y (items_at bytes)) (sym e)

-- ---- the leading cells

-- what is no starting cell closes them
pub record Closed (items : List Item) : Type 0 where
  pub values : values items ≡ []
  pub classes : classes items ≡ []
  pub later : later items ≡ items

pub closed : (place : ℕ) (x : Standing) (f : ℕ → List Item) → None ≡ cell_of x → Closed (following place x f)
unfolding cell_of following values classes later
closed place (Ok (Some (next.Cell c))) f h = absurd cc
closed place (Ok (Some (next.Call k n))) f h = record { values = refl; classes = refl; later = refl }
closed place (Ok None) f h = record { values = refl; classes = refl; later = refl }
closed place (Err r) f h = record { values = refl; classes = refl; later = refl }

-- a starting cell stands there
pub standing : (x : Standing) (c : Cell) → Some c ≡ cell_of x → Ok (Some (next.Cell c)) ≡ x
unfolding cell_of
standing (Ok (Some (next.Cell d))) c h = cc
standing (Ok (Some (next.Call k n))) c h = absurd cc
standing (Ok None) c h = absurd cc
standing (Err r) c h = absurd cc

-- the first n of vs and ks are the cells of the items before the place
pub record Leads (input vs ks : List ℕ) (n place : ℕ) : Type 0 where
  pub cells : values (items_at input 0) ≡ take n vs ++ values (items_at input place)
  pub kinds : classes (items_at input 0) ≡ take n ks ++ classes (items_at input place)
  pub rest : later (items_at input 0) ≡ later (items_at input place)

pub none_yet : (input vs ks : List ℕ) → Leads input vs ks 0 0
none_yet input vs ks = record { cells = refl; kinds = refl; rest = refl }

more : (all xs ys : List ℕ) (n x : ℕ) → n < length xs → all ≡ take n xs ++ (x ∷ ys) → all ≡ take (n + 1) (set xs n x) ++ ys
more all xs ys n x h e =
    e ∙ rw (add-one, take-suc-set xs n x h) (sym (append_assoc (take n xs) (x ∷ []) ys))

module _ (input vs ks : List ℕ) (n place class value m : ℕ) (so_far : Leads input vs ks n place) (here : items_at input place ≡ cell place class value ∷ items_at input (place + m)) where
  -- one cell more
  pub one_more : n < length vs → n < length ks → Leads input (set vs n value) (set ks n class) (n + 1) (place + m)
  unfolding values classes later
  one_more h k =
      record {
        cells = more _ vs _ n value h (so_far.cells ∙ ap (λ (r : List Item). take n vs ++ values r) here);
        kinds = more _ ks _ n class k (so_far.kinds ∙ ap (λ (r : List Item). take n ks ++ classes r) here);
        rest = so_far.rest ∙ ap later here;
      }

  -- one cell too many
  pub too_many : n ≡ 1024 → n ≤ length vs → 1025 ≤ length (values (items_at input 0))
  unfolding values
  too_many e h =
      let all = ap length (so_far.cells ∙ ap (λ (r : List Item). take n vs ++ values r) here) in
      omega (arith, simp length-append at all, length-take-le n vs h)

-- the field at the place closes them
pub closes : (input vs ks : List ℕ) (n place : ℕ) → Leads input vs ks n place → Closed (items_at input place) → n ≤ 1024 → place ≤ length input → Leading input vs ks n place
closes input vs ks n place l d h i =
    record {
      cells = l.cells ∙ ap (λ (r : List ℕ). take n vs ++ r) d.values ∙ append-nil (take n vs);
      kinds = l.kinds ∙ ap (λ (r : List ℕ). take n ks ++ r) d.classes ∙ append-nil (take n ks);
      closed = l.rest ∙ d.later;
      few = h;
      inside = i;
    }
