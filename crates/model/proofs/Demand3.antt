-- Demand 3: the theorem. What it claims is `Demand3` of specs/Isolation.antt.
use Prim.Native.Nat.{ℕ}
use native.Mathlib.Omega.{arith}
use mathlib.Core.Path.{◌≡◌, refl, sym, ap, subst, ◌∙◌}
use mathlib.Core.Bool.{true, ◌&&◌}
use mathlib.Core.List.{List, [], ◌∷◌, reverse}
use lib.ListN.{length, take}
use lib.Seq.{take-append_seam}
use Rattle.records.specs.declared.Answer.{Answer}
use Rattle.model.specs.Buffers.{Store, has_caps, passes, all_fit, lengths_fit, fresh}
use Rattle.model.specs.History.{Action, one_call, many_reads, load_caps, Event, reads_event, run, events, Item}
use Rattle.model.specs.Isolation.{Demand3, Ran, none, then, then_many, then_load, Demand3OfCode}
use Rattle.model.specs.Load.{load, load_answer, load_effect}
use Rattle.model.specs.ManyReads.{Reads, read_many, ReadsOutcome, read_many_effect}
use Rattle.model.specs.Effects.{number}
use Rattle.model.specs.Step.{Outcome, outcome, effect, set_up_effect, step, answer_of, set_up_refusal, set_up_answer, set_up}
use Rattle.model.proofs.Ledger.{Ledger}
use Rattle.model.proofs.Runs.{inv_fresh, Ready, ready}
use Rattle.model.proofs.Tools.{test}
use Rattle.model.proofs.Writers.{writing, isolation}

-- demand 3 from any start: what set-up leaves, or a store with the invariant in which transactions run, none of them sealed or committed
pub demand3_from : {σ : Store} {start : List Item} {T : Ledger} → Ready σ start T → (actions : List Action) → Demand3 start σ actions
demand3_from R actions = record { isolated = isolation R (reverse actions); locks = writing R (reverse actions) }

-- set-up answered 100: what it tested, and what it left
pub record Passed (σ : Store) : Type 0 where
  pub lengths : (has_caps σ.limits.caps && lengths_fit σ.lent) ≡ true
  pub table : passes σ.limits.caps ≡ true
  pub values : all_fit σ.limits.caps σ.lent.values σ.lent.classes ≡ true

pub set_up_passed : (σ : Store) → number (set_up_answer σ) ≡ 100 → Passed σ
unfolding set_up_answer set_up_refusal
set_up_passed σ h =
    test (has_caps σ.limits.caps && lengths_fit σ.lent)
    (λ x. test (passes σ.limits.caps)
    (λ y. test (all_fit σ.limits.caps σ.lent.values σ.lent.classes) (λ z. record { lengths = x; table = y; values = z })
    (λ z. absurd (let e : 8 ≡ 100 = rw (x, y, z) at h in omega arith)))
    (λ y. absurd (let e : 16 ≡ 100 = rw (x, y) at h in omega arith)))
    (λ x. absurd (let e : 7 ≡ 100 = rw x at h in omega arith))

pub set_up_fresh : (σ : Store) → number (set_up_answer σ) ≡ 100 → set_up σ ≡ fresh σ.limits σ.lent
unfolding set_up set_up_refusal
set_up_fresh σ h = let p = set_up_passed σ h in rw (p.lengths, p.table, p.values)

-- demand 3: any store that set-up answers 100, and any list of actions from what it leaves
pub demand3 : (σ : Store) → number (set_up_answer σ) ≡ 100 → (actions : List Action) → Demand3 [] (set_up σ) actions
demand3 σ h actions = subst (λ (φ : Store). Demand3 [] φ actions) (sym (set_up_fresh σ h)) (demand3_from (ready (fresh σ.limits σ.lent) (inv_fresh σ.limits σ.lent)) actions)

-- ---- code

-- what code that keeps its contract answered and left is the model's
pub ran_is : (σ : Store) {ks : List Action} {h : List Event} {τ : Store} → Ran σ ks h τ → (h ≡ events σ ks) × (τ ≡ run σ ks)
unfolding events run effect load_effect
ran_is σ none = (refl, refl)
ran_is σ (then r k a y e) =
    let i = ran_is σ r in
    let f = ap (λ (o : Outcome). o.answer) e in
    let g = ap (λ (o : Outcome). o.store) e in
    (rw (f, g, i.0, i.1), g ∙ ap (step k) i.1)
ran_is σ (then_many {ks} r s cs words o e) =
    let i = ran_is σ r in
    let f = e ∙ ap (read_many s cs words) i.1 in
    (rw i.0 (ap (λ (o : Reads). reads_event s cs words o.values o.last ∷ events σ ks) f), ap (λ (o : Reads). o.store) f)
ran_is σ (then_load r caps a y e) =
    let i = ran_is σ r in
    let f = ap (λ (o : Outcome). o.answer) e in
    let g = ap (λ (o : Outcome). o.store) e in
    (rw (f, i.0, i.1), g ∙ ap (load caps) i.1)

-- and every list of actions can be so made
pub ran_events : (σ : Store) (ks : List Action) → Ran σ ks (events σ ks) (run σ ks)
unfolding events run effect load_effect
ran_events σ [] = none
ran_events σ (one_call k ∷ ks) = then (ran_events σ ks) k (answer_of k (run σ ks)) (step k (run σ ks)) refl
ran_events σ (many_reads s cs words ∷ ks) = then_many (ran_events σ ks) s cs words (read_many s cs words (run σ ks)) refl
ran_events σ (load_caps caps ∷ ks) = then_load (ran_events σ ks) caps (load_answer caps (run σ ks)) (load caps (run σ ks)) refl

-- many reads that kept their contract, which is in numbers: the values are found at the front of the target, as many as the count says
pub ran_many : {σ : Store} {ks : List Action} {h : List Event} {x : Store} → Ran σ ks h x → (s : ℕ) (cs target : List ℕ) (o : ReadsOutcome) → o ≡ read_many_effect s cs target x
    → Ran σ (many_reads s cs (length target) ∷ ks) (reads_event s cs (length target) (take o.count o.target) (read_many s cs (length target) x).last ∷ h) o.store
unfolding read_many_effect
ran_many {x} r s cs target o e =
    let q = read_many s cs (length target) x in
    let v : take o.count o.target ≡ q.values = ap (λ (p : ReadsOutcome). take p.count p.target) e ∙ take-append_seam q.values _ in
    let y : o.store ≡ q.store = ap (λ (p : ReadsOutcome). p.store) e in
    rw (v, y) (then_many r s cs (length target) q refl)

-- demand 3 of code: a set-up that kept its contract and answered 100 left σ, and the calls kept theirs
pub demand3_of_code : (φ σ : Store) (a : Answer) → outcome a σ ≡ set_up_effect φ → number a ≡ 100
    → (actions : List Action) (h : List Event) (τ : Store) → Ran σ (reverse actions) h τ → Demand3OfCode σ actions h τ
unfolding set_up_effect
demand3_of_code φ σ a e n actions h τ r =
    let f = ap (λ (o : Outcome). o.answer) e in
    let g : σ ≡ set_up φ = ap (λ (o : Outcome). o.store) e in
    let d = subst (λ (σ : Store). Demand3 [] σ actions) (sym g) (demand3 φ (ap number (sym f) ∙ n) actions) in
    let i = ran_is σ r in
    record { events = i.0; left = i.1; isolated = rw i.0 d.isolated; locks = d.locks }
