-- A file of fields has exactly one reading, and written again it is the file: by induction on the reading, with `written_again` at each field.
-- Assumes nothing.
use Prim.Native.Nat.{ℕ, ◌+◌, ◌-◌, ◌≤◌}
use native.Mathlib.Omega.{arith}
use mathlib.Core.Path.{◌≡◌, refl, sym, ◌∙◌, ap, subst}
use mathlib.Core.Bool.{Bool, true, false, cond, not}
use mathlib.Core.List.{List, [], ◌∷◌, ◌++◌}
use lib.ListN.{length, take, drop, get_or, length-drop, take-append-drop, drop_of_length-le}
use lib.Seq.{length-take-le, take_at, drop_at, drop-drop}
use lib.Dec.{leb, ltb, eqb}
use borrow.Author.Tests.{leb-true}
use Rattle.field.specs.declared.Kind.{Kind}
use Rattle.field.specs.declared.Call.{Call}
use Rattle.field.specs.declared.Layout.{Layout}
use Rattle.std.specs.Prelude.{Option, Some, None}
use Rattle.field.specs.LittleEndian.{number_at}
use Rattle.field.specs.declared.Refusal.{Refusal}
use Rattle.field.specs.declared.Refusal.TheVariants.{CutShort, WrongLength}
use Rattle.field.specs.Table.{layout_of}
use Rattle.field.specs.Field.{field, end, refused, call_at, reading_of, reading_at}
use Rattle.field.specs.RoundTrip.{Bytes, Reads, ends, goes, writes}
use Rattle.field.proofs.Readings.{same_field}
use Rattle.field.proofs.RoundTrip.{found, written_again}

-- Two readings from one place are the same.
pub one_reading : {file : List ℕ} {place : ℕ} {cs ds : List Call} → Reads file place cs → Reads file place ds → cs ≡ ds
one_reading (ends e) (ends f) = refl
one_reading (ends e) (goes f r) = absurd cc
one_reading (goes e r) (ends f) = absurd cc
one_reading {file} {place} (goes {n = n} {c = c} {cs = cs} e r) (goes {n = m} {c = d} {cs = ds} f q) =
    let same = same_field (sym e ∙ f) in
    let rest : cs ≡ ds = one_reading r (subst (λ (i : ℕ). Reads file (place + i) ds) (sym same.2) q) in
    let here : c ≡ d = same.1 in
    cc

-- The reader says the end only where no byte is left.
refused_or_field : (b d : Bool) (k : Kind) (c : Call) (n p : ℕ) (x y : Refusal) → cond b (refused x p) (cond d (refused y p) (field k c n)) ≡ end → ⊥
refused_or_field true d k c n p x y e = cc
refused_or_field false true k c n p x y e = cc
refused_or_field false false k c n p x y e = cc

no_end : (t : Option Layout) (bytes : List ℕ) (place : ℕ) → reading_of t bytes place ≡ end → ⊥
unfolding reading_of
no_end None bytes place e = cc
no_end (Some l) bytes place e =
    refused_or_field
    (not (eqb (number_at bytes (place + 1) 2) l.length))
    (ltb (length bytes - place) (3 + l.length))
    l.kind
    (call_at bytes (place + 3) (get_or bytes place 0) l)
    (3 + l.length)
    place
    WrongLength
    CutShort
    e

end_test : (b d : Bool) (t : Option Layout) (bytes : List ℕ) (place : ℕ) → cond b end (cond d (refused CutShort place) (reading_of t bytes place)) ≡ end → b ≡ true
end_test true d t bytes place e = refl
end_test false true t bytes place e = absurd cc
end_test false false t bytes place e = absurd (no_end t bytes place e)

pub ended : (bytes : List ℕ) (place : ℕ) → reading_at bytes place ≡ end → length bytes ≤ place
unfolding reading_at
ended bytes place e =
    leb-true (length bytes) place (end_test (leb (length bytes) place) (ltb (length bytes - place) 3) (layout_of (get_or bytes place 0)) bytes place e)

none_left : (xs : List ℕ) → length xs ≡ 0 → xs ≡ []
none_left [] e = refl
none_left (x ∷ xs) e = absurd (omega arith)

-- What was read from a place on, written again into a target of the length that is left, is the file from there on.
rest_back : {file : List ℕ} {place : ℕ} {cs : List Call} → Bytes file → Reads file place cs → (target : List ℕ) → length target ≡ length file - place
    → writes cs target ≡ drop place file
unfolding writes
rest_back {file} {place} ok (ends e) target room =
    let over : length file ≤ place = ended file place e in
    none_left target (omega arith) ∙ sym (drop_of_length-le file over)
rest_back {file} {place} ok (goes {n = n} {k = k} {c = c} {cs = cs} e r) target room =
    let f = found file place k c n e in
    let rest : List ℕ = drop place file in
    let n-in : n ≤ length rest = simp length-drop (omega (arith, f.inside, f.long)) in
    let n_room : n ≤ length target = omega (arith, f.inside, f.long) in
    let again = written_again file place k c n ok e target n_room in
    let n-long : length (take n rest) ≡ n = length-take-le n rest n-in in
    let here : take n (take n rest ++ drop n target) ≡ take n rest = take_at (take n rest) (drop n target) n n-long in
    let left : drop n (take n rest ++ drop n target) ≡ drop n target = drop_at (take n rest) (drop n target) n n-long in
    let later : writes cs (drop n target) ≡ drop (place + n) file = rest_back ok r (drop n target) (simp length-drop (omega arith)) in
    rw (again, here, left, later) (ap (λ (x : List ℕ). take n rest ++ x) (sym (drop-drop n place file)) ∙ take-append-drop n rest)

-- An accepted file, read field by field to its end and written again by the writer into any target of its length, is the file again.
pub file_back : (file : List ℕ) (cs : List Call) → Bytes file → Reads file 0 cs → (target : List ℕ) → length target ≡ length file → writes cs target ≡ file
file_back file cs ok r target room = rest_back ok r target (omega arith)
