-- Which inputs are accepted: all of up to 65,536 bytes that set-up answers with 100, and no others. The theorems on what is printed ask for no
-- more (transcript/proofs/Isolated.antt).
use Prim.Native.Nat.{ℕ, ◌≤◌, ◌<◌}
use native.Mathlib.Omega.{arith}
use mathlib.Core.Path.{◌≡◌, refl}
use mathlib.Core.List.{List, [], ◌∷◌}
use lib.ListN.{length, replicate}
use borrow.Author.Tests.{leb-true}
use Rattle.model.specs.Computing.{computing}
use Rattle.model.specs.Effects.{number}
use Rattle.model.specs.Step.{set_up_answer}
use Rattle.field.specs.Field.{call_at, reading_of, reading_at}
use Rattle.field.specs.LittleEndian as little_endian
use Rattle.field.specs.Table.{table, find, layout_of}
use Rattle.items.specs.Items.{next_of_field, next_of, following, items_within, items_at, values, classes}
use Rattle.replay_text.specs.Transcript.{given, given_by, Accepted}

-- nothing else is asked
pub accepted : (input : List ℕ) → length input ≤ 65536 → number (set_up_answer (given_by input)) ≡ 100 → Accepted input
accepted input short set_up = record { short = short; set_up = set_up }

-- 65,536 bytes: a starting cell of class 2 with value 3, a begin of session 0, and 65,524 bytes 0
abbrev longest : List ℕ
longest = 8 ∷ 5 ∷ 0 ∷ 2 ∷ 3 ∷ 0 ∷ 0 ∷ 0 ∷ 1 ∷ 1 ∷ 0 ∷ 0 ∷ replicate 65524 0

pub longest_accepted : Accepted longest
unfolding computing call_at reading_of reading_at little_endian.number little_endian.number_at table find layout_of next_of_field next_of following items_within items_at values classes given
longest_accepted = accepted longest (leb-true (length longest) 65536 refl) refl

-- no longer one is
pub too_long : (input : List ℕ) → 65536 < length input → Accepted input → ⊥
too_long input over a = omega (arith, a.short)

-- nor is an input with no cell, which set-up answers with 7
pub no_cell : Accepted (1 ∷ 1 ∷ 0 ∷ 0 ∷ []) → ⊥
unfolding computing call_at reading_of reading_at little_endian.number little_endian.number_at table find layout_of next_of_field next_of following items_within items_at values classes given
no_cell a = let e : ◌≡◌ {A = ℕ} 7 100 = a.set_up in omega arith
