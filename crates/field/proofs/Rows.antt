-- Laws of the table: every layout is as the code relies on it, by a test that computes over the rows; and a tag that is no row's is unknown.
-- Assumes nothing.
use Prim.Native.Nat.{ℕ, ◌+◌}
use mathlib.Core.Path.{◌≡◌, refl, sym, ◌∙◌, ap, subst}
use mathlib.Core.Logic.{◌⊎◌, inl, inr}
use mathlib.Core.Bool.{Bool, true, false, cond, ◌&&◌, ◌||◌}
use mathlib.Core.List.{List, [], ◌∷◌}
use borrow.Author.Tests.{ne_eqb}
use lib.Dec.{T, eqb, eqb→eq}
use mir.Facts.{or_yes}
use mir.ValLaws.{and_both}
use Rattle.field.specs.declared.Layout.{Layout}
use Rattle.std.specs.Prelude.{Option, Some, None, Result, Err}
use Rattle.std.specs.Option.{ok_or}
use Rattle.little_endian.specs.LittleEndian.{Whole}
use Rattle.field.specs.Table.{Row, Proper, table, find, layout_of}

abbrev whole : ℕ → ℕ → Bool
whole all w = eqb w 0 || eqb w all

whole_law : (all w : ℕ) → T (whole all w) → Whole all w
whole_law all w h = by_cases_of (or_yes (eqb w 0) (eqb w all) h)
  where
    by_cases_of : T (eqb w 0) ⊎ T (eqb w all) → Whole all w
    by_cases_of (inl t) = inl (eqb→eq w 0 t)
    by_cases_of (inr t) = inr (eqb→eq w all t)

-- A layout passes the test.
abbrev passes : Layout → Bool
passes l =
    (((whole 1 l.session && whole 1 l.class) && whole 2 l.cell) && whole 4 l.value)
    && eqb l.length (l.session + l.class + l.cell + l.value)

passes_law : (l : Layout) → T (passes l) → Proper l
passes_law l h =
    let n = and_both (((whole 1 l.session && whole 1 l.class) && whole 2 l.cell) && whole 4 l.value) _ h in
    let v = and_both ((whole 1 l.session && whole 1 l.class) && whole 2 l.cell) _ n.0 in
    let e = and_both (whole 1 l.session && whole 1 l.class) _ v.0 in
    let s = and_both (whole 1 l.session) _ e.0 in
    record {
      session = whole_law 1 _ s.0;
      class = whole_law 1 _ s.1;
      cell = whole_law 2 _ e.1;
      value = whole_law 4 _ v.1;
      length = eqb→eq _ _ n.1;
    }

abbrev all_pass : List Row → Bool
all_pass [] = true
all_pass (r ∷ rows) = passes r.layout && all_pass rows

chosen : {l m : Layout} {rest : Option Layout} (b : Bool) → cond b (Some m) rest ≡ Some l → Proper m → (rest ≡ Some l → Proper l) → Proper l
chosen {l} {m} true e p f = let same : m ≡ l = cc in subst Proper same p
chosen false e p f = f e

-- What a tag finds among rows that pass is proper.
found : (t : ℕ) (rows : List Row) (l : Layout) → T (all_pass rows) → find t rows ≡ Some l → Proper l
unfolding find
found t [] l h e = absurd cc
found t (r ∷ rows) l h e =
    let parts : T (passes r.layout) × T (all_pass rows) = and_both (passes r.layout) (all_pass rows) h in
    chosen (eqb t r.tag) e (passes_law r.layout parts.0) (found t rows l parts.1)

pub proper : (t : ℕ) (l : Layout) → layout_of t ≡ Some l → Proper l
unfolding layout_of table
proper t l e = found t table l tt e

-- Beside what else is known, the tag is that of none of the rows: what a `match` with an arm for each row, in their order, knows past them.
abbrev pub Outside : ℕ → List Row → Type 0 → Type 0
Outside t [] else = else
Outside t (r ∷ rows) else = Outside t rows (else × (t ≡ r.tag → ⊥))

outside : (t : ℕ) (rows : List Row) (else : Type 0) → Outside t rows else → (find t rows ≡ None) × else
unfolding find
outside t [] else h = (refl, h)
outside t (r ∷ rows) else h =
    let rest = outside t rows (else × (t ≡ r.tag → ⊥)) h in
    (rw (ne_eqb t r.tag rest.1.1) rest.0, rest.1.0)

pub unlisted : (t : ℕ) → Outside t table Unit → layout_of t ≡ None
unfolding layout_of
unlisted t h = (outside t table Unit h).0

-- What `ok_or` and `?` hand on: the tag's layout, or the refusal where it has none.
pub known : (t : ℕ) {o p : Option Layout} → o ≡ layout_of t → o ≡ p → layout_of t ≡ p
known t e f = sym e ∙ f

pub why : {E : Type 0} {o : Option Layout} {e x y : E} → ◌≡◌ {A = Result Layout E} (Err x) (ok_or o e) → o ≡ None → y ≡ x → y ≡ e
why {E} {o} {e} {x} {y} v n g =
    let same : ◌≡◌ {A = Result Layout E} (Err x) (Err e) = v ∙ ap (λ (p : Option Layout). ok_or p e) n in
    let back : x ≡ e = cc in
    g ∙ back
