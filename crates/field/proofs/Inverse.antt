-- A number's bytes and the number that bytes stand for are inverse to each other, at any width.
-- Assumes nothing.
use Prim.Native.Nat.{ℕ, zero, suc, ◌+◌, ◌*◌, ◌/◌, ◌%◌, ◌≤◌, ◌<◌}
use native.Mathlib.Omega.{arith}
use mathlib.Core.Path.{◌≡◌, refl, sym, ◌∙◌, ap}
use mathlib.Core.List.{List, [], ◌∷◌, ◌++◌}
use lib.ListN.{length, take, drop, length-drop}
use lib.Seq.{length-take-le, take_at, drop_at, take-add, drop-drop}
use Rattle.field.specs.LittleEndian.{number, number_at, bytes_of}
use Rattle.field.specs.RoundTrip.{Bytes}
use Rattle.field.proofs.Writings.{length-bytes_of}

-- The numbers below this fit into `w` bytes.
abbrev pub limit : ℕ → ℕ
limit zero = 1
limit (suc w) = 256 * limit w

pub number_bytes_of : (w x : ℕ) → x < limit w → number (bytes_of w x) ≡ x
unfolding number bytes_of
number_bytes_of zero x h = omega arith
number_bytes_of (suc w) x h = let e = number_bytes_of w (x / 256) (omega arith) in omega arith

pub bytes_of-number : (bs : List ℕ) → Bytes bs → bytes_of (length bs) (number bs) ≡ bs
unfolding number bytes_of
bytes_of-number [] h = refl
bytes_of-number (b ∷ bs) h =
    let low : b < 256 = h 0 in
    let e : (b + 256 * number bs) % 256 ≡ b = omega arith in
    let f : (b + 256 * number bs) / 256 ≡ number bs = omega arith in
    rw (e, f) (ap (λ (r : List ℕ). b ∷ r) (bytes_of-number bs (λ i. h (suc i))))

-- Bytes, from an index on and up to a length, are bytes.
bytes_drop : (i : ℕ) (bs : List ℕ) → Bytes bs → Bytes (drop i bs)
bytes_drop zero bs h = h
bytes_drop (suc i) [] h = h
bytes_drop (suc i) (b ∷ bs) h = bytes_drop i bs (λ j. h (suc j))

in_front : (b : ℕ) (bs : List ℕ) → b < 256 → Bytes bs → Bytes (b ∷ bs)
in_front b bs low h zero = low
in_front b bs low h (suc i) = h i

bytes_take : (w : ℕ) (bs : List ℕ) → Bytes bs → Bytes (take w bs)
bytes_take zero bs h = λ i. omega arith
bytes_take (suc w) [] h = h
bytes_take (suc w) (b ∷ bs) h = in_front b (take w bs) (h 0) (bytes_take w bs (λ i. h (suc i)))

-- What is read at an index goes back to the bytes that stand there.
pub back : (bytes : List ℕ) (i w : ℕ) → Bytes bytes → i + w ≤ length bytes → bytes_of w (number_at bytes i w) ≡ take w (drop i bytes)
unfolding number_at
back bytes i w h in-side =
    let long : length (take w (drop i bytes)) ≡ w = length-take-le w (drop i bytes) (simp length-drop (omega arith)) in
    ap (λ (k : ℕ). bytes_of k (number (take w (drop i bytes)))) (sym long) ∙ bytes_of-number (take w (drop i bytes)) (bytes_take w (drop i bytes) (bytes_drop i bytes h))

-- What was put after `pre` is read there.
pub there : (bytes pre post : List ℕ) (i w x : ℕ) → bytes ≡ pre ++ (bytes_of w x ++ post) → length pre ≡ i → x < limit w → number_at bytes i w ≡ x
unfolding number_at
there bytes pre post i w x e n h =
    ap (λ (b : List ℕ). number (take w (drop i b))) e
    ∙ ap (λ (b : List ℕ). number (take w b)) (drop_at pre (bytes_of w x ++ post) i n)
    ∙ ap number (take_at (bytes_of w x) post w (length-bytes_of w x))
    ∙ number_bytes_of w x h

-- Two runs of bytes, the second from where the first ends, are one run.
pub runs : (bytes : List ℕ) (i j a b : ℕ) → j ≡ i + a → take a (drop i bytes) ++ take b (drop j bytes) ≡ take (a + b) (drop i bytes)
runs bytes i j a b e = ap (λ (k : ℕ). take a (drop i bytes) ++ take b (drop k bytes)) e ∙ ap (λ (r : List ℕ). take a (drop i bytes) ++ take b r) (sym (drop-drop a i bytes)) ∙ sym (take-add a b (drop i bytes))
