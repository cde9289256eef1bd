-- Demand 3, the order theorem, the caps and the count of those in the way are about what is printed: the answers of an accepted input are those of the model's events of its calls, what these tell is isolated, and the
-- values that are printed last are the store's.
use Prim.Native.Nat.{ℕ}
use mathlib.Core.Path.{◌≡◌, refl, ap, ◌∙◌}
use mathlib.Core.List.{List, [], ◌∷◌, ◌++◌, reverse, reverse-cons}
use borrow.Author.Tests.{le-leb, eq-eqb}
use Rattle.model.specs.Buffers.{Store, ours, fresh}
use Rattle.model.specs.Caps.{WithinCaps}
use Rattle.model.specs.Step.{step, set_up}
use Rattle.model.specs.CommitOrder.{InCommitOrder}
use Rattle.model.specs.History.{one_call, run, events, history}
use Rattle.model.specs.InTheWay.{EachWaitsForThose}
use Rattle.model.specs.Isolation.{Demand3}
use Rattle.model.proofs.Caps.{limits_step, within_caps}
use Rattle.model.proofs.CommitOrder.{in_commit_order}
use Rattle.model.proofs.Demand3.{demand3, set_up_fresh}
use Rattle.model.proofs.Firsts.{run_first}
use Rattle.model.proofs.Waiting.{waits_for_those}
use Rattle.items.specs.Items.{Item, cell, asked, refused, items_at, later, calls}
use Rattle.replay_text.specs.Lines.{answer_lines, cell_lines, end_line}
use Rattle.replay_text.specs.Transcript.{given, calls_text, after_set_up, set_up_text, items_text, transcript, given_by, calls_of, Accepted}

-- a line for each event, in the order of the calls, then what ends them, then the values that the calls leave
pub printed_is_events : (input : List ℕ) → Accepted input
    → transcript input
    ≡ answer_lines 1 (reverse (events (set_up (given_by input)) (reverse (calls_of input))))
    ++ (end_line (later (items_at input 0)) ++ cell_lines 0 (run (set_up (given_by input)) (reverse (calls_of input))).lent.values)
unfolding transcript items_text set_up_text after_set_up calls_text
printed_is_events input a = rw (le-leb _ _ a.short, eq-eqb _ _ a.set_up)

-- of that store and those calls demand 3 holds
pub printed_isolated : (input : List ℕ) → Accepted input → Demand3 [] (set_up (given_by input)) (calls_of input)
printed_isolated input a = demand3 (given_by input) a.set_up (calls_of input)

-- and so does the order theorem, of what they tell and of the values that they leave
pub printed_in_order : (input : List ℕ) → Accepted input → let φ = set_up (given_by input) in let ks = reverse (calls_of input) in
    InCommitOrder φ.lent.values (history [] φ ks) (run φ ks)
printed_in_order input a = in_commit_order (given_by input) a.set_up (calls_of input)

-- no call of an input changes the limits
limits_kept : (items : List Item) (σ : Store) → (run σ (reverse (calls items))).limits ≡ σ.limits
unfolding calls
limits_kept [] σ = unfold run in refl
limits_kept (cell place class value ∷ items) σ = unfold run in refl
limits_kept (asked k ∷ items) σ = rw (reverse-cons (one_call k) (calls items), run_first σ (one_call k) (reverse (calls items))) (limits_kept items (step k σ) ∙ limits_step k σ)
limits_kept (refused place number ∷ items) σ = unfold run in refl

-- so the replay keeps our caps, and by these the theorem on caps holds of it
pub printed_by_ours : (input : List ℕ) → Accepted input → (run (set_up (given_by input)) (reverse (calls_of input))).limits ≡ ours
unfolding given fresh
printed_by_ours input a = limits_kept (later (items_at input 0)) (set_up (given_by input)) ∙ ap (λ (σ : Store). σ.limits) (set_up_fresh (given_by input) a.set_up)

pub printed_within_caps : (input : List ℕ) → Accepted input → WithinCaps (set_up (given_by input)) (reverse (calls_of input))
printed_within_caps input a = within_caps (given_by input) a.set_up (calls_of input)

-- and the number printed after 104 is that of the sessions in the way
pub printed_waits : (input : List ℕ) → Accepted input → EachWaitsForThose (set_up (given_by input)) (reverse (calls_of input))
printed_waits input a = waits_for_those (given_by input) a.set_up (calls_of input)
