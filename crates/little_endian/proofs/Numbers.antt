-- Laws of little-endian numbers: std's bytes of a number are those of `bytes_of`, and its number of bytes is that of `number_at`.
-- Assumes nothing.
use Prim.Native.Nat.{ℕ, suc, ◌+◌, ◌*◌, ◌≤◌, ◌<◌}
use native.Mathlib.Omega.{arith}
use mathlib.Core.Path.{◌≡◌, refl, sym, ◌∙◌}
use mathlib.Core.Logic.{⊎_elim}
use mathlib.Core.List.{List, append_assoc}
use lib.ListN.{length, get_or, take, drop}
use lib.Seq.{drop-cons, drop-drop, sets, sets-eq}
use borrow.Rule.Slice.PartMut.{put_mid}
use Rattle.std.proofs.Math.Nat.{div-div-eq-div-mul}
use Rattle.std.specs.Int.{w16, w32, to_le_bytes}
use Rattle.little_endian.specs.LittleEndian.{number, number_at, bytes_of, Whole}

-- A number that takes bytes takes all of them.
pub all_of : (all w : ℕ) → Whole all w → (w ≡ 0 → ⊥) → w ≡ all
all_of all w h n = ⊎_elim (λ e. absurd (n e)) (λ e. e) h

-- No bytes are read as 0, and leave what they are put into.
pub read_none : (bytes : List ℕ) (i w : ℕ) → w ≡ 0 → number_at bytes i w ≡ 0
unfolding number_at number
read_none bytes i w e = rw e refl

pub write_none : (target : List ℕ) (i w x : ℕ) → w ≡ 0 → target ≡ sets target i (bytes_of w x)
unfolding bytes_of
write_none target i w x e = rw e refl

-- The number in one byte more than others.
number_more : (bytes : List ℕ) (i j w : ℕ) → suc i ≡ j → j ≤ length bytes → number_at bytes i (suc w) ≡ get_or bytes i 0 + 256 * number_at bytes j w
unfolding number_at number
number_more bytes i j w e h = let inside : i < length bytes = omega arith in rw (← e, drop-cons bytes i 0 inside) refl

-- The number in one byte, in two and in four, as std adds them up.
pub number_1 : (bytes : List ℕ) (i : ℕ) → i + 1 ≤ length bytes → get_or bytes i 0 ≡ number_at bytes i 1
number_1 bytes i h = omega (arith, read_none bytes (i + 1) 0 refl, number_more bytes i (i + 1) 0 (omega arith) h)

pub number_2 : (bytes : List ℕ) (i : ℕ) → i + 2 ≤ length bytes → get_or bytes i 0 + get_or bytes (i + 1) 0 * 0x100 ≡ number_at bytes i 2
number_2 bytes i h =
    omega (
      arith,
      read_none bytes (i + 2) 0 refl,
      number_more bytes i (i + 1) 1 (omega arith) (omega arith),
      number_more bytes (i + 1) (i + 2) 0 (omega arith) h,
    )

pub number_4 : (bytes : List ℕ) (i : ℕ) → i + 4 ≤ length bytes
    → get_or bytes i 0 + get_or bytes (i + 1) 0 * 0x100 + get_or bytes (i + 2) 0 * 0x10000 + get_or bytes (i + 3) 0 * 0x1000000 ≡ number_at bytes i 4
number_4 bytes i h =
    omega (
      arith,
      read_none bytes (i + 4) 0 refl,
      number_more bytes i (i + 1) 3 (omega arith) (omega arith),
      number_more bytes (i + 1) (i + 2) 2 (omega arith) (omega arith),
      number_more bytes (i + 2) (i + 3) 1 (omega arith) (omega arith),
      number_more bytes (i + 3) (i + 4) 0 (omega arith) h,
    )

-- Bytes that take the place of as many from an index on are stored there.
part_stored : (target : List ℕ) (i n : ℕ) (vs xs : List ℕ) → vs ≡ xs → n ≡ length xs → i + length xs ≤ length target → put_mid i n target vs ≡ sets target i xs
part_stored target i n vs xs e f h =
    rw (e, f, sets-eq xs target i h, drop-drop (length xs) i target) (sym (append_assoc (take i target) xs (drop (i + length xs) target)))

-- So are std's bytes of a number, two and four of them.
pub stored_2 : (target : List ℕ) (i n x : ℕ) (vs : List ℕ) → vs ≡ to_le_bytes w16 x → n ≡ 2 → i + 2 ≤ length target → put_mid i n target vs ≡ sets target i (bytes_of 2 x)
unfolding bytes_of
stored_2 target i n x vs e f h = part_stored target i n vs _ e f h

pub stored_4 : (target : List ℕ) (i n x : ℕ) (vs : List ℕ) → vs ≡ to_le_bytes w32 x → n ≡ 4 → i + 4 ≤ length target → put_mid i n target vs ≡ sets target i (bytes_of 4 x)
unfolding bytes_of
stored_4 target i n x vs e f h =
    let same : to_le_bytes w32 x ≡ bytes_of 4 x = simp div-div-eq-div-mul in
    part_stored target i n vs _ (e ∙ same) f h
