-- Demand 3 of lists of calls for C: what a call tells in numbers is an answer of the model with these numbers, so that the theorem for code that
-- keeps its contract speaks of the calls for C.
use Prim.Native.Nat.{ℕ}
use mathlib.Core.Path.{◌≡◌, refl, sym, ap}
use mathlib.Core.List.{List, [], ◌∷◌, map, reverse}
use lib.ListN.{length, take}
use Rattle.model.specs.Buffers.{Store}
use Rattle.model.specs.History.{Action, Event, event, with_found, reads_event, load_event}
use Rattle.model.specs.Load.{load_effect}
use Rattle.model.specs.Isolation.{Ran}
use Rattle.model.specs.ManyReads.{ReadsOutcome, read_many, read_many_effect}
use Rattle.model.specs.Isolation as list
use Rattle.model.specs.Effects.{number, value_of}
use Rattle.model.specs.Step.{Outcome, outcome, effect, set_up_effect}
use Rattle.model.specs.Told.{found_by}
use Rattle.model.proofs.Caps.{within_caps_of_code}
use Rattle.model.proofs.CommitOrder.{in_commit_order_of_code}
use Rattle.model.proofs.Demand3.{ran_many, demand3_of_code}
use Rattle.model.proofs.Waiting.{waits_for_those_of_code}
use Rattle.c_api.specs.InNumbers.{NumberOutcome, replied, in_numbers, Heard, heard, Called, none, then, then_many, then_load, Demand3InNumbers}

-- the store that a call for C leaves, with the model's own answer, is the call's outcome
answered : (n v : ℕ) (y : Store) (o : Outcome) → replied n v y ≡ in_numbers o → outcome o.answer y ≡ o
answered n v y o e = rw (ap (λ (s : NumberOutcome). s.store) e)

-- calls for C, with the answers that they told in numbers
pub record Answered (σ : Store) (ks : List Action) (h : List Heard) (τ : Store) : Type 0 where
  pub events : List Event
  pub told : h ≡ map heard events
  pub ran : Ran σ ks events τ

pub answered_all : (σ : Store) {ks : List Action} {h : List Heard} {τ : Store} → Called σ ks h τ → Answered σ ks h τ
unfolding read_many_effect
answered_all σ none = record { events = []; told = refl; ran = list.none }
answered_all σ (then {x = x} r k n v y e) =
    let i = answered_all σ r in
    let n' : n ≡ number (effect k x).answer = ap (λ (s : NumberOutcome). s.number) e in
    let v' : v ≡ value_of (effect k x).answer = ap (λ (s : NumberOutcome). s.value) e in
    let t = i.told in
    record {
      events = with_found (found_by k y) (event k (effect k x).answer) ∷ i.events;
      told = cc;
      ran = list.then i.ran k (effect k x).answer y (answered n v y (effect k x) e);
    }
answered_all σ (then_many {x = x} r s cs target o e) =
    let i = answered_all σ r in
    let n : o.number ≡ number (read_many s cs (length target) x).last = ap (λ (p : ReadsOutcome). p.number) e in
    let t = i.told in
    record {
      events = reads_event s cs (length target) (take o.count o.target) (read_many s cs (length target) x).last ∷ i.events;
      told = cc;
      ran = ran_many i.ran s cs target o e;
    }
answered_all σ (then_load {x = x} r T n v y e) =
    let i = answered_all σ r in
    let n' : n ≡ number (load_effect T x).answer = ap (λ (s : NumberOutcome). s.number) e in
    let t = i.told in
    record {
      events = load_event T (load_effect T x).answer ∷ i.events;
      told = cc;
      ran = list.then_load i.ran T (load_effect T x).answer y (answered n v y (load_effect T x) e);
    }

-- demand 3 of the calls for C: a set-up that told 100 left σ, and the calls kept their contracts
pub demand3_in_numbers : (φ σ : Store) (v : ℕ) → replied 100 v σ ≡ in_numbers (set_up_effect φ)
    → (actions : List Action) (h : List Heard) (τ : Store) → Called σ (reverse actions) h τ → Demand3InNumbers σ actions h τ
demand3_in_numbers φ σ v e actions h τ r =
    let i = answered_all σ r in
    record {
      events = i.events;
      told = i.told;
      meets = demand3_of_code φ σ (set_up_effect φ).answer (answered 100 v σ (set_up_effect φ) e) (sym (ap (λ (s : NumberOutcome). s.number) e)) actions i.events τ i.ran;
      caps = within_caps_of_code φ σ (set_up_effect φ).answer (answered 100 v σ (set_up_effect φ) e) (sym (ap (λ (s : NumberOutcome). s.number) e)) actions;
      order = in_commit_order_of_code φ σ (set_up_effect φ).answer (answered 100 v σ (set_up_effect φ) e) (sym (ap (λ (s : NumberOutcome). s.number) e)) actions i.events τ i.ran;
      waits = waits_for_those_of_code φ σ (set_up_effect φ).answer (answered 100 v σ (set_up_effect φ) e) (sym (ap (λ (s : NumberOutcome). s.number) e)) actions;
    }
