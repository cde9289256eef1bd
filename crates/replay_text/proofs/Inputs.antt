-- The text of an input by what leads it: too many bytes, too many cells, or the cells and the items behind them.
use Prim.Native.Nat.{ℕ, ◌≤◌, ◌<◌}
use mathlib.Core.Path.{◌≡◌}
use mathlib.Core.Bool.{false, and-false}
use mathlib.Core.List.{List}
use lib.ListN.{length, take}
use borrow.Author.Tests.{le-leb, lt-leb}
use Rattle.model.specs.Buffers.{size, lengths_fit}
use Rattle.model.specs.Step.{set_up_refusal, set_up_answer}
use Rattle.items.specs.Items.{items_at, values, classes}
use Rattle.items.specs.Leading.{Leading}
use Rattle.replay_text.specs.Lines.{size_line, set_up_line}
use Rattle.replay_text.specs.Transcript.{given, after_set_up, set_up_text, items_text, transcript}

-- more than 65,536 bytes
pub size_text : (input : List ℕ) → 65536 < length input → size_line ≡ transcript input
unfolding transcript
size_text input h = simp (lt-leb _ _ h)

-- more than 1,024 cells
over : (vs ks : List ℕ) → 1025 ≤ length vs → lengths_fit (given vs ks).lent ≡ false
unfolding lengths_fit size given
over vs ks h = simp (lt-leb (length vs) 1024 h, and-false)

pub too_many_text : (input : List ℕ) → length input ≤ 65536 → 1025 ≤ length (values (items_at input 0)) → set_up_line 7 ≡ transcript input
unfolding transcript items_text set_up_text after_set_up set_up_answer set_up_refusal
too_many_text input h k = simp (le-leb _ _ h, over (values (items_at input 0)) (classes (items_at input 0)) k, and-false)

-- the cells that were read, and the items from the field that closes them
pub leading_text : (input vs ks : List ℕ) (n place : ℕ) → length input ≤ 65536 → Leading input vs ks n place → set_up_text (given (take n vs) (take n ks)) (items_at input place) ≡ transcript input
unfolding transcript items_text
leading_text input vs ks n place h l = simp (le-leb _ _ h, l.cells, l.kinds, l.closed)
