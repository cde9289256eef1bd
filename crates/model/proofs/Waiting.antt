-- How many a session waits for: on any store the other readers of its cell, 1 or more; in a list of actions from a set-up, the sessions that are in the way there.
use Prim.Native.Nat.{ℕ, zero, suc, ◌<◌, ◌≤◌}
use native.Mathlib.Omega.{arith}
use mathlib.Core.Path.{◌≡◌, refl, sym, ◌∙◌, ap, subst}
use mathlib.Core.Logic.{◌⊎◌, inl, inr}
use mathlib.Core.Bool.{Bool, true, false, not, ◌&&◌}
use mathlib.Core.Option.{some}
use mathlib.Core.List.{List, [], ◌∷◌, reverse}
use lib.Dec.{leb, eqb}
use lib.ListN.{length, get_or-eq_default}
use borrow.Author.Tests.{eq-eqb, ne_eqb, eqb-true, eqb-false, leb-true, not-false}
use Rattle.records.specs.declared.Answer.{Answer}
use Rattle.records.specs.declared.Answer.TheVariants.{Moved, Committed}
use Rattle.records.specs.declared.Call.TheVariants.{Advance}
use Rattle.records.specs.declared.Lock.{Lock}
use Rattle.records.specs.declared.Plan.{Plan}
use Rattle.records.specs.declared.Plan.TheVariants.{Acquire, Wait, Publish, Release}
use Rattle.records.specs.declared.Session.{Session}
use Rattle.model.specs.Buffers.{Store, size, session_at, slot_in, look_in, entry_of, publishes_in, lock_at, publishes, current_of, fresh, idle}
use Rattle.model.specs.Effects.{number, value_of, record_of, log_of, answer, is_left, release_answer}
use Rattle.model.specs.History.{Action, Item}
use Rattle.model.specs.InTheWay.{due_in, WaitsForOthers, is_in_the_way, others_in_the_way, WaitsForThose, EachWaitsForThose}
use Rattle.model.specs.Plans.{record_fits, claimed, promote_plan, advance_target, plan}
use Rattle.model.specs.Readers.{other_readers}
use Rattle.model.specs.Step.{Outcome, outcome, plan_of, answer_of, set_up_answer, set_up, set_up_effect}
use Rattle.model.proofs.Advancing.{late, role_late, target_some}
use Rattle.model.proofs.Demand3.{set_up_fresh}
use Rattle.model.proofs.Effects.{idle_out}
use Rattle.model.proofs.Invariant.{role_in, role_of, role, Inv}
use Rattle.model.proofs.Laws.{tally_less, tally_same}
use Rattle.model.proofs.Ledger.{Ledger}
use Rattle.model.proofs.Passing.{choose, guarded}
use Rattle.model.proofs.Preservation.{inside_wrote}
use Rattle.model.proofs.Roles.{holds, owns, flip}
use Rattle.model.proofs.Runs.{inv_fresh, Ready, ready, inv_run}
use Rattle.model.proofs.Sets.{others_told, others_tally}
use Rattle.model.proofs.Tools.{split, same, test, which, clash}
use Rattle.model.proofs.View.{look, written, target}

-- ---- on any store

-- what an advance answered 104 has passed, and how many it tells
record Waited (σ : Store) (s : ℕ) (a : Answer) : Type 0 where
  low : s < 16
  fit : record_fits (size σ.lent) (log_of σ s) (record_of σ s) ≡ true
  late' : 2 ≤ (record_of σ s).phase
  cell : ℕ
  due : due_in σ s ≡ some cell
  own : let l = lock_at σ.lent.locks cell in (l.claimant ≡ 16) ⊎ (l.claimant ≡ s)
  others : value_of a ≡ other_readers s (lock_at σ.lent.locks cell).readers
  more : other_readers s (lock_at σ.lent.locks cell).readers ≡ 0 → ⊥

-- no claimant but the session
own_claim : (l : Lock) (s : ℕ) → (claimed l && not (eqb l.claimant s)) ≡ false → (l.claimant ≡ 16) ⊎ (l.claimant ≡ s)
unfolding claimed
own_claim l s h =
    test (eqb l.claimant 16) (λ e. inl (eqb-true l.claimant 16 e))
    (λ e. inr (eqb-true l.claimant s (not-false (eqb l.claimant s) (rw e at h))))

module _ (σ : Store) (s : ℕ) where
  abbrev x : Session
  x = record_of σ s

  abbrev Tells : Answer → Type 0
  Tells a = number a ≡ 104 → Waited σ s a

  abbrev Waits : Plan → Type 0
  Waits p = Tells (answer s p σ)

  refused : (r : ℕ) → r < 100 → {a : Answer} → r ≡ 104 → Waited σ s a
  refused r l e = absurd (omega arith)

  released : (c : ℕ) → Tells (release_answer (log_of σ s) c x)
  unfolding release_answer
  released c = split Tells (is_left (log_of σ s) c x) {x = Moved} {y = Committed} (λ _ e. absurd (omega arith)) (λ _ e. absurd (omega arith))

  waited : Tells (answer_of (Advance s) σ)
  unfolding answer_of plan_of plan advance_target promote_plan answer
  waited =
      guarded Waits σ.lent s x (leb 2 x.phase) (advance_target s (log_of σ s) x (lock_at σ.lent.locks) (due_in σ s))
      (refused 7 (omega arith)) (refused 1 (omega arith)) (refused 9 (omega arith)) (refused 2 (omega arith))
      (λ lt k h. choose Waits (advance_target s (log_of σ s) x (lock_at σ.lent.locks)) (due_in σ s) (λ _. refused 9 (omega arith))
      (λ c due.
      let l = lock_at σ.lent.locks c in
      split Waits (eqb x.phase 2)
      (λ _. split Waits (claimed l && not (eqb l.claimant s)) (λ _. refused 6 (omega arith))
      (λ cl. split Waits (eqb (other_readers s l.readers) 0) {x = Acquire c} {y = Wait c (other_readers s l.readers)} (λ _ e. absurd (omega arith))
      (λ z _.
      record {
        low = lt;
        fit = k;
        late' = leb-true 2 x.phase h;
        cell = c;
        due = due;
        own = own_claim l s cl;
        others = refl;
        more = eqb-false (other_readers s l.readers) 0 z;
      })))
      (λ _. split Waits (eqb x.phase 3) {x = Publish c (current_of (look_in (log_of σ s) x.count c))} {y = Release c} (λ _ e. absurd (omega arith)) (λ _. released c))))

pub waits_for_others : (σ : Store) (s : ℕ) → WaitsForOthers σ s
waits_for_others σ s h =
    let w = waited σ s h in
    (w.cell, w.due, others_told (lock_at σ.lent.locks w.cell) s (answer_of (Advance s) σ) w.low w.others w.more)

-- ---- of what a list of actions leaves

-- from phase 3 on a session owns what it holds
owns_late : (q : ℕ) (w b : Bool) (f v : ℕ) → let r = role_in (suc (suc (suc q))) w b f v in holds r ≡ true → owns r ≡ true
unfolding role_in
owns_late zero true true f v h = refl
owns_late zero true false f v h = refl
owns_late zero false b f v h = h
owns_late (suc zero) true true f v h = refl
owns_late (suc zero) true false f v h = h
owns_late (suc zero) false b f v h = h
owns_late (suc (suc q)) w b f v h = h

module _ {first : List ℕ} {σ : Store} {T : Ledger} (I : Inv first σ T) where
  past : (t c : ℕ) → 16 ≤ t → holds (role σ c t) ≡ false
  unfolding session_at
  past t c l = ap holds (idle_out σ t c (ap (λ (x : Session). x.phase) (get_or-eq_default σ.sessions.records idle (omega (arith, I.shape.records)))))

  module _ (c : ℕ) (lc : c < length first) (s : ℕ) (own : let l = lock_at σ.lent.locks c in (l.claimant ≡ 16) ⊎ (l.claimant ≡ s)) where
    -- nobody else owns the cell
    unowned_by : (t : ℕ) → t < 16 → (t ≡ s → ⊥) → owns (role σ c t) ≡ true → ⊥
    unowned_by t lt n h = go own
      where
        go : let l = lock_at σ.lent.locks c in (l.claimant ≡ 16) ⊎ (l.claimant ≡ s) → ⊥
        go (inl e) = let w = ((I.locked c lc).owner t h).0 in omega (arith, e, w)
        go (inr e) = n (sym ((I.locked c lc).owner t h).0 ∙ e)

    -- another session reads the cell exactly where it is in the way there
    reads_in_the_way : (t : ℕ) → t < 16 → (t ≡ s → ⊥) → holds (role σ c t) ≡ is_in_the_way σ c t
    unfolding role role_of role_in late written look look_in entry_of publishes_in
    reads_in_the_way t lt n = go (record_of σ t).phase refl
      where
        apart : ((record_of σ t).phase ≡ 1 → ⊥) → ((record_of σ t).phase ≡ 2 → ⊥) → is_in_the_way σ c t ≡ false
        apart a b = rw (ne_eqb (record_of σ t).phase 1 a, ne_eqb (record_of σ t).phase 2 b)

        go : (p : ℕ) → (record_of σ t).phase ≡ p → holds (role σ c t) ≡ is_in_the_way σ c t
        go zero e = ap holds (idle_out σ t c e) ∙ sym (apart (λ a. omega (arith, a, e)) (λ a. omega (arith, a, e)))
        go (suc zero) e =
            which (slot_in (log_of σ t) (record_of σ t).count c)
            (λ p. rw (p, e))
            (λ k p. rw (p, e))
        go (suc (suc zero)) e =
            ap holds (role_late σ t c 0 e) ∙ test (written σ t c) (λ w. test (leb (record_of σ t).next c) (λ b. rw (w, b, e)) (λ b. rw (w, b, e))) (λ w. rw (w, e))
        go (suc (suc (suc q))) e =
            flip (holds (role σ c t))
            (λ h. unowned_by t lt n
            (which (look σ t c) (λ p. absurd (clash (holds (role σ c t)) h (rw p))) (λ k p. rw (p, e) (owns_late q (publishes k) (leb (record_of σ t).next c) k.snapshot k.current (rw (p, e) at h)))))
            ∙ sym (apart (λ a. omega (arith, a, e)) (λ a. omega (arith, a, e)))

    readers_in_the_way : other_readers s (lock_at σ.lent.locks c).readers ≡ others_in_the_way σ s c
    unfolding others_in_the_way
    readers_in_the_way =
        let is = (I.locked c lc).readers in
        others_tally 16 s (lock_at σ.lent.locks c).readers (λ t l. is t ∙ past t c l)
        ∙ tally_same _ _ 16 (λ t l. same t s (λ e. rw (eq-eqb t s e)) (λ n. ap (λ (b : Bool). not (eqb t s) && b) (is t ∙ reads_in_the_way t l n)))

  fifteen : (s c : ℕ) → s < 16 → others_in_the_way σ s c ≤ 15
  unfolding others_in_the_way
  fifteen s c l = let w = tally_less (λ t. not (eqb t s) && is_in_the_way σ c t) 16 s l (rw (eq-eqb s s refl)) in omega (arith, w)

  waits_for_those_by : (s : ℕ) → WaitsForThose σ s
  unfolding target
  waits_for_those_by s h =
      let w = waited σ s h in
      let lc = inside_wrote I s w.fit (λ e. omega (arith, e, w.late')) w.cell (target_some σ s (record_of σ s).next w.due).1 in
      let e = w.others ∙ readers_in_the_way w.cell lc s w.own in
      (w.cell, w.due, e, omega (arith, w.others, w.more), omega (arith, e, fifteen s w.cell w.low))

-- from any start, and from what a set-up answered 100 left
pub waits_for_those_from : {σ : Store} {start : List Item} {T : Ledger} → Ready σ start T → (ks : List Action) → EachWaitsForThose σ ks
waits_for_those_from R [] = tt
waits_for_those_from R (k ∷ ks) = (waits_for_those_from R ks, λ s _. waits_for_those_by (inv_run R ks) s)

pub waits_for_those : (σ : Store) → number (set_up_answer σ) ≡ 100 → (actions : List Action) → EachWaitsForThose (set_up σ) (reverse actions)
waits_for_those σ h actions =
    subst (λ (φ : Store). EachWaitsForThose φ (reverse actions)) (sym (set_up_fresh σ h)) (waits_for_those_from (ready (fresh σ.limits σ.lent) (inv_fresh σ.limits σ.lent)) (reverse actions))

-- of what a set-up left that kept its contract and answered 100
pub waits_for_those_of_code : (φ σ : Store) (a : Answer) → outcome a σ ≡ set_up_effect φ → number a ≡ 100 → (actions : List Action) → EachWaitsForThose σ (reverse actions)
unfolding set_up_effect
waits_for_those_of_code φ σ a e n actions =
    let f = ap (λ (o : Outcome). o.answer) e in
    subst (λ (σ : Store). EachWaitsForThose σ (reverse actions)) (sym (ap (λ (o : Outcome). o.store) e)) (waits_for_those φ (ap number (sym f) ∙ n) actions)
