-- Who is in the way at a cell, by the invariant: the lock goes with the roles, and past its seal a session is nothing to a cell that it does not publish.
use Prim.Native.Nat.{ℕ, zero, suc, ◌<◌}
use native.Mathlib.Omega.{arith}
use mathlib.Core.Path.{◌≡◌, refl, sym, ◌∙◌, ap, subst}
use mathlib.Core.Logic.{◌⊎◌, inl, inr}
use mathlib.Core.Bool.{true}
use mathlib.Core.List.{List, ◌∷◌, reverse}
use lib.Dec.{eqb}
use lib.ListN.{length}
use Rattle.records.specs.declared.Call.TheVariants.{Seal}
use Rattle.records.specs.declared.Plan.{Plan}
use Rattle.records.specs.declared.Session.{Session}
use Rattle.model.specs.Buffers.{Store, size, idle, move_to, publishes_in, target_in, lock_at, fresh}
use Rattle.model.specs.Effects.{number, record_of, log_of, answer, after}
use Rattle.model.specs.History.{Action, one_call, Item, run}
use Rattle.model.specs.InTheWay.{publishes_cell, is_reader, InTheWay, SealTaken, SealLetsGo}
use Rattle.model.specs.Plans.{seal_target, plan}
use Rattle.model.specs.Step.{plan_of, step, answer_of, set_up_answer, set_up}
use Rattle.model.proofs.Advancing.{late, role_late}
use Rattle.model.proofs.Demand3.{set_up_fresh}
use Rattle.model.proofs.Effects.{idle_out, running_role}
use Rattle.model.proofs.Invariant.{role_of, role, Inv}
use Rattle.model.proofs.Laws.{session_same}
use Rattle.model.proofs.Ledger.{Ledger}
use Rattle.model.proofs.Passing.{choose, guarded}
use Rattle.model.proofs.Roles.{out, holds, claims?, flip}
use Rattle.model.proofs.Runs.{inv_fresh, Ready, ready, inv_run}
use Rattle.model.proofs.Tools.{test, which, clash}
use Rattle.model.proofs.View.{look, written}

-- a session runs, publishes the cell, or is nothing to it
data Standing (σ : Store) (s c : ℕ) : Type 0 where
  running : (record_of σ s).phase ≡ 1 → Standing σ s c
  publishing : publishes_cell σ s c ≡ true → Standing σ s c
  absent : role σ c s ≡ out → Standing σ s c

standing : (σ : Store) (s c : ℕ) → Standing σ s c
unfolding late written look publishes_in
standing σ s c = go (record_of σ s).phase refl
  where
    go : (p : ℕ) → (record_of σ s).phase ≡ p → Standing σ s c
    go zero e = absent (idle_out σ s c e)
    go (suc zero) e = running e
    go (suc (suc q)) e = test (written σ s c) (λ w. publishing w) (λ w. absent (role_late σ s c q e ∙ rw w))

-- a running session claims nothing
running_claims : (σ : Store) (s c : ℕ) → (record_of σ s).phase ≡ 1 → claims? (role σ c s) ≡ true → ⊥
unfolding role role_of
running_claims σ s c e h =
    which (look σ s c) (λ p. clash (claims? (role σ c s)) h (rw p)) (λ n p. clash (claims? (role σ c s)) h (ap claims? (running_role σ s c n e p)))

in_the_way_by : {first : List ℕ} {σ : Store} {T : Ledger} → Inv first σ T → InTheWay σ
unfolding size
in_the_way_by {first} {σ} {T} I =
    record {
      readers = λ s c l h. reader s c (sym ((I.locked c (inside c l)).readers s) ∙ h) (standing σ s c);
      claimants = λ c l. claimant c (I.locked c (inside c l)).claimer;
    }
  where
    inside : (c : ℕ) → c < length σ.lent.values → c < length first
    inside c l = omega (arith, I.shape.values)

    reader : (s c : ℕ) → holds (role σ c s) ≡ true → Standing σ s c → ((record_of σ s).phase ≡ 1) ⊎ (publishes_cell σ s c ≡ true)
    reader s c h (running e) = inl e
    reader s c h (publishing w) = inr w
    reader s c h (absent o) = absurd (clash (holds (role σ c s)) h (ap holds o))

    publisher : (s c : ℕ) → claims? (role σ c s) ≡ true → Standing σ s c → publishes_cell σ s c ≡ true
    publisher s c h (running e) = absurd (running_claims σ s c e h)
    publisher s c h (publishing w) = w
    publisher s c h (absent o) = absurd (clash (claims? (role σ c s)) h (ap claims? o))

    claimant : (c : ℕ) → let s = (lock_at σ.lent.locks c).claimant in (s ≡ 16) ⊎ (claims? (role σ c s) ≡ true) → (s ≡ 16) ⊎ (publishes_cell σ s c ≡ true)
    claimant c (inl e) = inl e
    claimant c (inr h) = let s = (lock_at σ.lent.locks c).claimant in inr (publisher s c h (standing σ s c))

-- from any start, and from what a set-up answered 100 left
pub in_the_way_from : {σ : Store} {start : List Item} {T : Ledger} → Ready σ start T → (actions : List Action) → InTheWay (run σ (reverse actions))
in_the_way_from R actions = in_the_way_by (inv_run R (reverse actions))

pub in_the_way : (σ : Store) → number (set_up_answer σ) ≡ 100 → (actions : List Action) → InTheWay (run (set_up σ) (reverse actions))
in_the_way σ h actions =
    subst (λ (φ : Store). InTheWay (run φ (reverse actions))) (sym (set_up_fresh σ h)) (in_the_way_from (ready (fresh σ.limits σ.lent) (inv_fresh σ.limits σ.lent)) actions)

-- ---- what a seal leaves

-- answered 102 or 105 its session does not run any more
not_running : (σ : Store) (s : ℕ) → length σ.sessions.records ≡ 16 → SealTaken (answer_of (Seal s) σ) → (record_of (step (Seal s) σ) s).phase ≡ 1 → ⊥
unfolding answer_of step plan_of plan seal_target answer after
not_running σ s n =
    guarded Stops σ.lent s (record_of σ s) (eqb (record_of σ s).phase 1) (seal_target (target_in (log_of σ s) (record_of σ s).count 0))
    (λ a _. refused 7 (omega arith) a) (λ a _. refused 1 (omega arith) a) (λ a _. refused 9 (omega arith) a) (λ a _. refused 2 (omega arith) a)
    (λ lt _ _. choose Stops seal_target (target_in (log_of σ s) (record_of σ s).count 0)
    (λ _ _ e. let f = ap (λ (x : Session). x.phase) (session_same σ.sessions s idle n lt) in omega (arith, e, f))
    (λ _ _ _ e. let f = ap (λ (x : Session). x.phase) (session_same σ.sessions s (move_to 2 0 (record_of σ s)) n lt) in omega (arith, e, f)))
  where
    Stops : Plan → Type 0
    Stops p = SealTaken (answer s p σ) → (record_of (after s p σ) s).phase ≡ 1 → ⊥

    refused : (r : ℕ) → r < 100 → (r ≡ 102) ⊎ (r ≡ 105) → ⊥
    refused r l (inl e) = omega arith
    refused r l (inr e) = omega arith

seal_lets_go_by : {first : List ℕ} {σ : Store} {T : Ledger} (s : ℕ) → Inv first σ T → InTheWay (step (Seal s) σ) → SealLetsGo σ s
seal_lets_go_by {σ = σ} s I w a c l u = flip (is_reader (step (Seal s) σ) s c) (λ h. go (w.readers s c l h))
  where
    go : ((record_of (step (Seal s) σ) s).phase ≡ 1) ⊎ (publishes_cell (step (Seal s) σ) s c ≡ true) → ⊥
    go (inl e) = not_running σ s I.shape.records a e
    go (inr p) = clash (publishes_cell (step (Seal s) σ) s c) p u

pub seal_lets_go_from : {σ : Store} {start : List Item} {T : Ledger} → Ready σ start T → (ks : List Action) (s : ℕ) → SealLetsGo (run σ ks) s
seal_lets_go_from R ks s = seal_lets_go_by s (inv_run R ks) (unfold run in in_the_way_by (inv_run R (one_call (Seal s) ∷ ks)))

pub seal_lets_go : (σ : Store) → number (set_up_answer σ) ≡ 100 → (actions : List Action) (s : ℕ) → SealLetsGo (run (set_up σ) (reverse actions)) s
seal_lets_go σ h actions s =
    subst (λ (φ : Store). SealLetsGo (run φ (reverse actions)) s) (sym (set_up_fresh σ h)) (seal_lets_go_from (ready (fresh σ.limits σ.lent) (inv_fresh σ.limits σ.lent)) (reverse actions) s)
