-- What the functions here leave: a text put into the output. Nothing here is part of what the replay promises.
use Rattle.std.specs.Prelude.{ℕ, ◌+◌, ◌≤◌, ◌≡◌, List, [], length, Some, None, Ok, Err}
use Rattle.std.proofs.lemmas.List.Edits.{sets}
use Rattle.lines.specs.declared.Page.{Page}
use Rattle.field.specs.Answer.{number_of}
use Rattle.items.specs.Items.{Standing}
use Rattle.items.specs.declared.Next.TheVariants as next
use Rattle.replay_text.specs.Lines.{field_line}

-- ---- one text

-- the place after what was written, and the output
pub record Out : Type 0 where
  pub at : ℕ
  pub output : List ℕ

abbrev pub out : ℕ → List ℕ → Out
out at output = record { at = at; output = output }

-- a text put at a place
unfoldable pub put : List ℕ → ℕ → List ℕ → Out
put output at text = out (at + length text) (sets output at text)

-- a page's place and output
abbrev pub held : Page → Out
held p = out p.at p.output.now

-- a text of at most m bytes put behind what stands on a page
abbrev pub Puts : Page → Page → List ℕ → ℕ → Type 0
Puts old new text m = (held new ≡ put old.output.now old.at text) × (new.at ≤ old.at + m)

-- ---- what ends the calls

-- the line of what stands at a place, where it is no call
unfoldable pub stop_line : ℕ → Standing → List ℕ
stop_line place (Ok (Some (next.Cell c))) = field_line place 11
stop_line place (Ok (Some (next.Call k n))) = []
stop_line place (Ok None) = []
stop_line place (Err r) = field_line place (number_of r.refusal)
