-- The replay's text, from input bytes to output bytes (document 01, "Call fields"). What it prints of the calls is `events` and `run` of the
-- model, of which demand 3 speaks.
use Rattle.std.specs.Prelude.{ℕ, ◌≤◌, ◌≡◌, cond, List, ◌++◌, reverse, leb, eqb, length, replicate}
use Rattle.records.specs.declared.Answer.{Answer}
use Rattle.model.specs.Buffers.{Store, ours, idle}
use Rattle.model.specs.Effects.{number}
use Rattle.model.specs.Step.{set_up_answer, set_up}
use Rattle.model.specs.History.{Action, run, events}
use Rattle.items.specs.Items.{Item, items_at, values, classes, later, calls}
use Rattle.replay_text.specs.Lines.{size_line, set_up_line, answer_lines, cell_lines, end_line}

-- what set-up is given for the starting cells: nothing in locks, logs and records, and our caps
unfoldable pub given : List ℕ → List ℕ → Store
given vs ks =
    let n = length vs in
    record {
      lent = record {
        values = vs;
        classes = ks;
        locks = record { readers = replicate n 0; claimants = replicate n 0; exclusives = replicate n 0 };
        logs = replicate 2048 0;
      };
      limits = ours;
      sessions = record { records = replicate 16 idle };
    }

-- a line for each call from the store σ, with the ordinals from the given one on, the line of what ends the calls, and a line for each cell
unfoldable pub calls_text : ℕ → Store → List Item → List ℕ
calls_text ordinal σ items =
    answer_lines ordinal (reverse (events σ (reverse (calls items)))) ++ (end_line items ++ cell_lines 0 (run σ (reverse (calls items))).lent.values)

-- set-up comes first: a refused one is all that is printed
unfoldable pub after_set_up : Answer → Store → List Item → List ℕ
after_set_up a σ items = cond (eqb (number a) 100) (calls_text 1 σ items) (set_up_line (number a))

unfoldable pub set_up_text : Store → List Item → List ℕ
set_up_text σ items = after_set_up (set_up_answer σ) (set_up σ) items

unfoldable pub items_text : List Item → List ℕ
items_text items = set_up_text (given (values items) (classes items)) (later items)

-- up to 65,536 bytes are taken
unfoldable pub transcript : List ℕ → List ℕ
transcript input = cond (leb (length input) 65536) (items_text (items_at input 0)) size_line

-- ---- what demand 3 is told about

-- the store that is handed to set-up for an input, and the calls that the input lists
abbrev pub given_by : List ℕ → Store
given_by input = given (values (items_at input 0)) (classes (items_at input 0))

abbrev pub calls_of : List ℕ → List Action
calls_of input = calls (later (items_at input 0))

-- an input whose calls are printed: of up to 65,536 bytes, and set up with 100
pub record Accepted (input : List ℕ) : Type 0 where
  pub short : length input ≤ 65536
  pub set_up : number (set_up_answer (given_by input)) ≡ 100
