-- What is put behind the front follows what was taken.
use Rattle.std.proofs.Common.{◌≡◌, ℕ, ◌+◌, ◌≤◌, List, ◌++◌, rules, arith, length, length-append, take, drop, refl, sym, ap, ◌∙◌, subst}
use Rattle.std.proofs.Math.Seq.{take-append-add, length-take-le}
use Rattle.std.proofs.lemmas.List.{take-append-le, take-append-drop}
use Rattle.std.proofs.lemmas.Slice.{take-put_mid}
use Rattle.std.proofs.KnownBytes.{Consumes-trans}
use Rattle.std.specs.Io.KnownBytes.{Consumes}
use Rattle.replay.proofs.read_full.Goals as goal

-- the first n bytes of a part, in the whole
in_whole : (front part whole : List ℕ) (a n : ℕ) → length front ≡ a → n ≤ length part → take (a + length part) whole ≡ front ++ part → take (a + n) whole ≡ front ++ take n part
in_whole front part whole a n f h e =
    let full : a + n ≤ length (take (a + length part) whole) = omega (arith, f, h, simp length-append at (ap length e)) in
    let cut : take (a + n) whole ≡ take (a + n) (take (a + length part) whole) =
    ap (take (a + n)) (sym (take-append-drop (a + length part) whole)) ∙ take-append-le (a + n) (take (a + length part) whole) (drop (a + length part) whole) full in
    cut ∙ ap (take (a + n)) e ∙ ap (λ (k : ℕ). take (k + n) (front ++ part)) (sym f) ∙ take-append-add front part n

pub loop-done-preserved : goal.loop-done-preserved
loop-done-preserved g c =
    let v = c.loop-done.invariant in
    let whole = take-put_mid c.loop-done.done _ c.loop-done.bytes c.read.new.buf _ refl v.1 in
    (search rules, search rules, subst (Consumes _ _) (sym (in_whole _ _ _ _ _ (length-take-le _ _ v.1) c.in_ok-n.ensures.bound.0 whole)) (Consumes-trans _ _ _ _ _ v.2 c.in_ok-n.ensures.bytes.0))
