-- One call: after the store's step and the answer's line the rest of the text is that of the items behind it.
use Prim.Native.Nat.{ℕ, ◌+◌}
use native.Mathlib.Numerals.{add-one}
use mathlib.Core.Path.{◌≡◌, sym, ◌∙◌, ap}
use mathlib.Core.List.{List, [], ◌∷◌, ◌++◌}
use Rattle.records.specs.declared.Answer.{Answer}
use Rattle.records.specs.declared.Call.{Call}
use Rattle.model.specs.Buffers.{Store, ours}
use Rattle.model.specs.Step.{Outcome, outcome, effect, step, answer_of, GoesBy}
use Rattle.model.proofs.Tables.{goes_by_ours}
use Rattle.std.specs.Prelude.{Some, None, Ok, Err}
use Rattle.field.specs.Answer.{number_of}
use Rattle.items.specs.declared.Next.TheVariants as next
use Rattle.items.specs.Items.{Standing, Item, asked, following}
use Rattle.transcript.specs.Output.{call_of}
use Rattle.replay_text.specs.Lines.{answer_line, cell_lines}
use Rattle.lines.specs.Output.{out, put, stop_line}
use Rattle.replay_text.specs.Transcript.{calls_text}
use Rattle.replay_text.proofs.Forward.{text_asked, text_end, text_refused, text_late_cell}
use Rattle.lines.proofs.Puts.{after}

module _ (k : Call) (i : ℕ) (o : List ℕ) (at : ℕ) (σ : Store) where
  -- what is left of the text after a call by our caps
  pub turned_text : (items : List Item) {x : Answer} {φ : Store} {a : ℕ} {p : List ℕ} → (GoesBy k ours → outcome x φ ≡ effect k σ) → out a p ≡ put o at (answer_line i x) → put p a (calls_text (i + 1) φ items) ≡ put o at (calls_text i σ (asked k ∷ items))
  unfolding effect
  turned_text items {x} {φ} {a} {p} step_is f =
      let e = step_is (goes_by_ours k) in
      let said : x ≡ answer_of k σ = ap (λ (r : Outcome). r.answer) e in
      let left : φ ≡ step k σ = ap (λ (r : Outcome). r.store) e in
      let line : out a p ≡ put o at (answer_line i (answer_of k σ)) = f ∙ ap (λ (y : Answer). put o at (answer_line i y)) said in
      rw (add-one, left) (after o at _ _ line ∙ ap (put o at) (sym (text_asked σ k i items)))

-- what is no call ends them
pub stops : (place : ℕ) (x : Standing) (f : ℕ → List Item) (i : ℕ) (σ : Store) → None ≡ call_of x → calls_text i σ (following place x f) ≡ stop_line place x ++ cell_lines 0 σ.lent.values
unfolding call_of following stop_line
stops place (Ok (Some (next.Cell c))) f i σ h = text_late_cell i σ place c.class c.value (f (place + c.length))
stops place (Ok (Some (next.Call k n))) f i σ h = absurd cc
stops place (Ok None) f i σ h = text_end i σ
stops place (Err r) f i σ h = text_refused i σ place (number_of r.refusal) []

-- a call stands there
pub standing : (x : Standing) (k : Call) (n : ℕ) → Some (k, n) ≡ call_of x → Ok (Some (next.Call k n)) ≡ x
unfolding call_of
standing (Ok (Some (next.Cell c))) k n h = absurd cc
standing (Ok (Some (next.Call j m))) k n h = let same : ◌≡◌ {A = Call × ℕ} (k, n) (j, m) = cc in ap (λ (p : Call × ℕ). Ok (Some (next.Call p.0 p.1))) same
standing (Ok None) k n h = absurd cc
standing (Err r) k n h = absurd cc
