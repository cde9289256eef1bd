-- Texts put one after the other are one text.
use Prim.Native.Nat.{ℕ, suc, ◌+◌, ◌≤◌}
use native.Mathlib.Omega.{arith}
use mathlib.Core.Path.{◌≡◌, sym, ◌∙◌, ap}
use mathlib.Core.List.{List, [], ◌∷◌, ◌++◌, append_assoc}
use lib.ListN.{length, set, take, drop, length-append}
use lib.Seq.{sets, sets-eq, drop-drop, length-sets}
use borrow.Rule.Slice.PartMut.{put_mid}
use Rattle.lines.specs.Output.{Out, out, put}

sets_append : (o : List ℕ) (at : ℕ) (s t : List ℕ) → sets (sets o at s) (at + length s) t ≡ sets o at (s ++ t)
sets_append o at [] t = ap (λ (i : ℕ). sets o i t) (omega arith)
sets_append o at (b ∷ s) t = ap (λ (i : ℕ). sets (sets (set o at b) (suc at) s) i t) (omega arith) ∙ sets_append (set o at b) (suc at) s t

-- a part that is a text now
pub part_put : (o : List ℕ) (at n : ℕ) (part text : List ℕ) → part ≡ text → n ≡ length text → at + length text ≤ length o → out (at + length text) (put_mid at n o part) ≡ put o at text
unfolding put
part_put o at n part text e f h =
    rw (e, f, sets-eq text o at h, drop-drop (length text) at o) (ap (out (at + length text)) (sym (append_assoc (take at o) text (drop (at + length text) o))))

-- where a text ends
pub ends_at : (o : List ℕ) (at : ℕ) (s : List ℕ) {a : ℕ} {p : List ℕ} → out a p ≡ put o at s → a ≡ at + length s
unfolding put
ends_at o at s e = ap (λ (x : Out). x.at) e

-- the output stays as long, and this is left of it behind a text
pub kept : (o : List ℕ) (at : ℕ) (s : List ℕ) {a : ℕ} {p : List ℕ} → out a p ≡ put o at s → length p ≡ length o
unfolding put
kept o at s e = ap (λ (x : Out). length x.output) e ∙ length-sets o at s

pub left : (o : List ℕ) (at : ℕ) (s : List ℕ) {a : ℕ} {p : List ℕ} → out a p ≡ put o at s → (n : ℕ) → at + length s + n ≤ length o → a + n ≤ length p
left o at s e n h = omega (arith, ends_at o at s e, kept o at s e)

pub put_nothing : (o : List ℕ) (at : ℕ) → put o at [] ≡ out at o
unfolding put
put_nothing o at = ap (λ (i : ℕ). out i o) (omega arith)

-- a text at the place where another ended is put after it
pub after : (o : List ℕ) (at : ℕ) (s t : List ℕ) {a : ℕ} {p : List ℕ} → out a p ≡ put o at s → put p a t ≡ put o at (s ++ t)
unfolding put
after o at s t {a} {p} e =
    let place : a ≡ at + length s = ends_at o at s e in
    let text : p ≡ sets o at s = ap (λ (x : Out). x.output) e in
    rw (text, place) (ap (λ (i : ℕ). out i (sets (sets o at s) (at + length s) t)) (simp length-append (omega arith)) ∙ ap (out (at + length (s ++ t))) (sets_append o at s t))

pub then : (o : List ℕ) (at : ℕ) (s t : List ℕ) {a b : ℕ} {p q : List ℕ} → out a p ≡ put o at s → out b q ≡ put p a t → out b q ≡ put o at (s ++ t)
then o at s t e f = f ∙ after o at s t e
