-- The lines that the replay prints, as ASCII codes (document 01, "Call fields"). Numbers are in decimal, words are parted by one space (32), and
-- each line ends with a newline (10).
use Rattle.std.specs.Prelude.{ℕ, suc, List, [], ◌∷◌, ◌++◌}
use Rattle.records.specs.declared.Answer.{Answer}
use Rattle.records.specs.declared.Answer.TheVariants.{Done, Value, Sealed, Moved, Waiting, Committed, Refused}
use Rattle.model.specs.Effects.{number}
use Rattle.model.specs.History.{Event}
use Rattle.replay_text.specs.Decimal.{decimal}
use Rattle.items.specs.Items.{Item, cell, asked, refused}

-- a number and what parts it from the next word or ends the line
unfoldable pub word : ℕ → ℕ → List ℕ
word n end = decimal n ++ end ∷ []

abbrev pub space : ℕ
space = 32

abbrev pub newline : ℕ
newline = 10

-- size
unfoldable pub size_line : List ℕ
size_line = 115 ∷ 105 ∷ 122 ∷ 101 ∷ newline ∷ []

-- setup N
unfoldable pub set_up_line : ℕ → List ℕ
set_up_line n = (115 ∷ 101 ∷ 116 ∷ 117 ∷ 112 ∷ space ∷ []) ++ word n newline

-- field PLACE N
unfoldable pub field_line : ℕ → ℕ → List ℕ
field_line place n = (102 ∷ 105 ∷ 101 ∷ 108 ∷ 100 ∷ space ∷ []) ++ (word place space ++ word n newline)

-- c CELL VALUE
unfoldable pub cell_line : ℕ → ℕ → List ℕ
cell_line i v = (99 ∷ space ∷ []) ++ (word i space ++ word v newline)

-- ORDINAL N, and after 101 and 104 the value (document 02, Paper 6)
unfoldable pub answer_words : Answer → List ℕ
answer_words Done = word (number Done) newline
answer_words (Value v) = word (number (Value v)) space ++ word v newline
answer_words Sealed = word (number Sealed) newline
answer_words Moved = word (number Moved) newline
answer_words (Waiting k) = word (number (Waiting k)) space ++ word k newline
answer_words Committed = word (number Committed) newline
answer_words (Refused k) = word (number (Refused k)) newline

unfoldable pub answer_line : ℕ → Answer → List ℕ
answer_line ordinal a = word ordinal space ++ answer_words a

-- a line for each call, with the ordinals from the given one on
unfoldable pub answer_lines : ℕ → List Event → List ℕ
answer_lines ordinal [] = []
answer_lines ordinal (e ∷ events) = answer_line ordinal e.answer ++ answer_lines (suc ordinal) events

-- a line for each cell, from the given one on
unfoldable pub cell_lines : ℕ → List ℕ → List ℕ
cell_lines i [] = []
cell_lines i (v ∷ vs) = cell_line i v ++ cell_lines (suc i) vs

-- the line of what ends the calls: a refused field, or a late starting cell, which is no call: 11; none where the input ends
unfoldable pub end_line : List Item → List ℕ
end_line [] = []
end_line (cell place class value ∷ items) = field_line place 11
end_line (asked k ∷ items) = end_line items
end_line (refused place number ∷ items) = field_line place number
