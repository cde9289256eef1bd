-- What the writer gives, by the way that its tests go, and how its stores make the field.
-- Assumes nothing.
use Prim.Native.Nat.{ℕ, zero, suc, ◌+◌, ◌≤◌, ◌<◌}
use native.Mathlib.Nat.{add-zero}
use native.Mathlib.Omega.{arith}
use mathlib.Core.Path.{◌≡◌, refl, sym, ◌∙◌, ap}
use mathlib.Core.Logic.{⊎_elim}
use mathlib.Core.List.{List, [], ◌∷◌, ◌++◌}
use lib.ListN.{length, drop, set, length-append}
use lib.Seq.{sets, sets-eq}
use borrow.Author.Tests.{lt-ltb, le-ltb}
use Rattle.field.specs.declared.Layout.{Layout}
use Rattle.std.specs.Prelude.{Some, None}
use Rattle.field.specs.declared.Call.{Call}
use Rattle.little_endian.specs.LittleEndian.{bytes_of, Whole}
use Rattle.field.specs.Table.{Proper, layout_of}
use Rattle.field.specs.Answer.{done, unknown_tag, short_target}
use Rattle.field.specs.Field.{body_of, field_of, write_reply, writing_of, writing}

-- ---- lengths

pub length-bytes_of : (w x : ℕ) → length (bytes_of w x) ≡ w
unfolding bytes_of
length-bytes_of zero x = refl
length-bytes_of (suc w) x = ap suc (length-bytes_of w _)

whole_le : (all w : ℕ) → Whole all w → w ≤ all
whole_le all w h = ⊎_elim (λ e. omega arith) (λ e. omega arith) h

-- A body has at most eight bytes.
pub small : (l : Layout) → Proper l → l.length ≤ 8
small l p =
    omega (
      arith,
      p.length,
      whole_le 1 _ p.session,
      whole_le 1 _ p.class,
      whole_le 2 _ p.cell,
      whole_le 4 _ p.value,
    )

pub length-body : (l : Layout) (c : Call) → Proper l → length (body_of l c) ≡ l.length
unfolding body_of
length-body l c p = simp (length-append, length-bytes_of) (sym p.length)

pub length-field : (l : Layout) (c : Call) → Proper l → length (field_of l c) ≡ 3 + l.length
unfolding field_of bytes_of
length-field l c p = let e = length-body l c p in omega arith

-- ---- stores

-- A run of stores, and one that begins where it ends, are one run.
pub next_run : (t : List ℕ) (i k : ℕ) (xs ys : List ℕ) → k ≡ i + length xs → sets (sets t i xs) k ys ≡ sets t i (xs ++ ys)
next_run t i k [] ys e = ap (λ (j : ℕ). sets t j ys) (e ∙ add-zero i)
next_run t i k (x ∷ xs) ys e = next_run (set t i x) (suc i) k xs ys (omega arith)

-- The four numbers of a body, stored one after the other.
pub body_stores : (l : Layout) (c : Call) (t t₁ t₂ t₃ t₄ : List ℕ)
    → t₁ ≡ sets t 3 (bytes_of l.session c.session)
    → t₂ ≡ sets t₁ (3 + l.session) (bytes_of l.class c.class)
    → t₃ ≡ sets t₂ (3 + l.session + l.class) (bytes_of l.cell c.cell)
    → t₄ ≡ sets t₃ (3 + l.session + l.class + l.cell) (bytes_of l.value c.value)
    → t₄ ≡ sets t 3 (body_of l c)
unfolding body_of
body_stores l c t t₁ t₂ t₃ t₄ e₁ e₂ e₃ e₄ =
    let s = bytes_of l.session c.session in
    let k = bytes_of l.class c.class in
    let e = bytes_of l.cell c.cell in
    let v = bytes_of l.value c.value in
    rw (e₄, e₃, e₂, e₁)
    (rw (next_run t 3 (3 + l.session) s k (simp length-bytes_of))
    (rw (next_run t 3 (3 + l.session + l.class) (s ++ k) e (simp (length-append, length-bytes_of) (omega arith)))
    (next_run t 3 (3 + l.session + l.class + l.cell) (s ++ k ++ e) v (simp (length-append, length-bytes_of) (omega arith)))))

-- ---- the writer's answers

module _ (target : List ℕ) (c : Call) where
  pub unknown : layout_of c.tag ≡ None → write_reply unknown_tag 0 target ≡ writing target c
  unfolding writing writing_of
  unknown e = rw e

  module _ (l : Layout) (known : layout_of c.tag ≡ Some l) where
    pub short : length target < 3 + l.length → write_reply short_target 0 target ≡ writing target c
    unfolding writing writing_of
    short h = simp (known, lt-ltb _ _ h)

    pub written : 3 + l.length ≤ length target → write_reply done (3 + l.length) (field_of l c ++ drop (3 + l.length) target) ≡ writing target c
    unfolding writing writing_of
    written h = simp (known, le-ltb _ _ h)

    -- The stores of tag, length and body leave the field at the front.
    pub field_stores : (t₁ t₂ : List ℕ) → Proper l → 3 + l.length ≤ length target
        → t₁ ≡ sets (set target 0 c.tag) 1 (bytes_of 2 l.length)
        → t₂ ≡ sets t₁ 3 (body_of l c)
        → write_reply done (3 + l.length) t₂ ≡ writing target c
    unfolding field_of
    field_stores t₁ t₂ p h e₁ e₂ =
        let n = length-field l c p in
        let run : t₂ ≡ sets target 0 (field_of l c) = e₂ ∙ ap (λ (t : List ℕ). sets t 3 (body_of l c)) e₁ ∙ next_run (set target 0 c.tag) 1 3 (bytes_of 2 l.length) (body_of l c) (simp length-bytes_of) in
        let split = sets-eq (field_of l c) target 0 (omega arith) in
        let at : 0 + length (field_of l c) ≡ 3 + l.length = omega arith in
        ap (write_reply done (3 + l.length)) (run ∙ split ∙ ap (λ (k : ℕ). field_of l c ++ drop k target) at) ∙ written h
