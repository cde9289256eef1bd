-- The text of the calls, call by call in their order: the model's `events` and `run`, which have the newest call first, taken from the oldest on.
use Prim.Native.Nat.{ℕ, suc}
use mathlib.Core.Path.{◌≡◌, refl, ◌∙◌, ap}
use mathlib.Core.List.{List, [], ◌∷◌, ◌++◌, append_assoc, reverse, reverse-cons, reverse-append}
use Rattle.records.specs.declared.Call.{Call}
use Rattle.model.specs.Buffers.{Store}
use Rattle.model.specs.History.{Action, one_call, event_of, run, events}
use Rattle.model.specs.Step.{step, answer_of}
use Rattle.model.proofs.Firsts.{run_first, events_first}
use Rattle.items.specs.Items.{Item, cell, asked, refused, calls}
use Rattle.replay_text.specs.Lines.{field_line, answer_line, answer_lines, cell_lines, end_line}
use Rattle.replay_text.specs.Transcript.{calls_text}

module _ (σ : Store) (k : Call) where
  -- a call, and those after it on what it leaves
  run_asked : (ks : List Action) → run σ (reverse (one_call k ∷ ks)) ≡ run (step k σ) (reverse ks)
  run_asked ks = ap (run σ) (reverse-cons (one_call k) ks) ∙ run_first σ (one_call k) (reverse ks)

  events_asked : (ks : List Action) → reverse (events σ (reverse (one_call k ∷ ks))) ≡ event_of (one_call k) σ ∷ reverse (events (step k σ) (reverse ks))
  events_asked ks =
      ap (λ (js : List Action). reverse (events σ js)) (reverse-cons (one_call k) ks) ∙ ap reverse (events_first σ (one_call k) (reverse ks))
      ∙ reverse-append (events (step k σ) (reverse ks)) _

  -- a call prints its line, and the rest follows from the store that it leaves
  pub text_asked : (i : ℕ) (items : List Item) → calls_text i σ (asked k ∷ items) ≡ answer_line i (answer_of k σ) ++ calls_text (suc i) (step k σ) items
  unfolding calls answer_lines end_line calls_text
  text_asked i items =
      rw (events_asked (calls items), run_asked (calls items)) (append_assoc (answer_line i (answer_of k σ)) (answer_lines (suc i) (reverse (events (step k σ) (reverse (calls items))))) _)

module _ (i : ℕ) (σ : Store) where
  -- where the calls end, the cells follow
  pub text_end : calls_text i σ [] ≡ cell_lines 0 σ.lent.values
  unfolding calls answer_lines end_line calls_text run events
  text_end = refl

  pub text_refused : (place number : ℕ) (items : List Item) → calls_text i σ (refused place number ∷ items) ≡ field_line place number ++ cell_lines 0 σ.lent.values
  unfolding calls answer_lines end_line calls_text run events
  text_refused place number items = refl

  pub text_late_cell : (place class value : ℕ) (items : List Item) → calls_text i σ (cell place class value ∷ items) ≡ field_line place 11 ++ cell_lines 0 σ.lent.values
  unfolding calls answer_lines end_line calls_text run events
  text_late_cell place class value items = refl
