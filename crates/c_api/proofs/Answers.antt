-- Which answers a begin, a read, a hold and a seal give, by the plans that they make; and so does the code, whose answer is the model's.
use Prim.Native.Nat.{ℕ, ◌%◌}
use mathlib.Core.Path.{◌≡◌, refl, ap, ◌∙◌}
use mathlib.Core.Bool.{Bool, true}
use native.Mathlib.Omega.{arith}
use lib.Dec.{ltb, eqb}
use lib.ListN.{replicate}
use Rattle.model.specs.Buffers.{Buffers, ours, Store, idle, size, with_session, lock_at, lengths_fit, slot_in, target_in}
use Rattle.model.specs.Effects.{record_of, log_of, answer, plan_effect}
use Rattle.model.specs.Plans.{require, admit, guard, known, claimed, new_cell, read_slot, read_plan, hold_slot, hold_plan, seal_target, seal_plan, plan}
use Rattle.model.specs.Step.{Outcome, answer_of, plan_of, effect, session_of, TakesRecord}
use Rattle.records.specs.declared.Answer.{Answer}
use Rattle.records.specs.declared.Call.{Call}
use Rattle.records.specs.declared.Call.TheVariants.{Begin, Read, Seal, Hold}
use Rattle.records.specs.declared.Lock.{Lock}
use Rattle.records.specs.declared.Plan.{Plan}
use Rattle.records.specs.declared.Plan.TheVariants.{Refuse, Enter, EnterMark}
use Rattle.records.specs.declared.Session.{Session}
use Rattle.model.proofs.Laws.{session_same}
use Rattle.model.proofs.Tables.{goes_by_ours}
use Rattle.model.proofs.Tools.{split, which}
use Rattle.turns.proofs.Guards.{required, guarded}
use Rattle.numbers.specs.Answers.{of_begin, of_read, of_seal}

-- what holds of every refusal holds of a plan behind the tests of 7 and 1
admitted : (Q : Plan → Type 0) → ((k : ℕ) → Q (Refuse k)) → (B : Buffers) (s : ℕ) (p : Plan) → Q p → Q (admit B s p)
admitted Q f B s p q = required Q f (lengths_fit B) 7 (require (ltb s 16) (Refuse 1) p) (λ t. required Q f (ltb s 16) 1 p (λ u. q))

begin_answers : (s : ℕ) (σ : Store) → of_begin (answer_of (Begin s) σ) ≡ true
unfolding answer_of plan_of plan answer plan_effect
begin_answers s σ =
    let Q : Plan → Type 0 = λ p. of_begin (answer s p σ) ≡ true in
    admitted Q (λ k. refl) σ.lent s _ (guarded Q (λ k. refl) (size σ.lent) (log_of σ s) (record_of σ s) (eqb (record_of σ s).phase 0) _ (λ t u. refl))

-- a read and a hold answer alike: behind their tests by what they decide of an entry, and of a new cell by how they enter it
module _ (s c : ℕ) (σ : Store) where
  abbrev Reads : Plan → Type 0
  Reads p = of_read (answer s p σ) ≡ true

  abbrev x : Session
  x = record_of σ s

  looks : (p : Plan) → Reads p → Reads (admit σ.lent s (guard (size σ.lent) (log_of σ s) x (eqb x.phase 1) (known (size σ.lent) c p)))
  unfolding known answer plan_effect
  looks p q =
      admitted Reads (λ k. refl) σ.lent s _
      (guarded Reads (λ k. refl) (size σ.lent) (log_of σ s) x (eqb x.phase 1) _ (λ t u. required Reads (λ k. refl) (ltb c (size σ.lent)) 3 p (λ w. q)))

  enters : (l : Lock) (p : Plan) → Reads p → Reads (new_cell x l p)
  unfolding new_cell answer plan_effect
  enters l p q = required Reads (λ k. refl) (ltb x.count 32) 5 _ (λ t. split Reads (claimed l) (λ u. refl) (λ u. q))

  read_answers : of_read (answer_of (Read s c) σ) ≡ true
  unfolding answer_of plan_of plan read_plan read_slot answer plan_effect
  read_answers =
      looks _ (which (slot_in (log_of σ s) x.count c) (λ e. rw e (enters (lock_at σ.lent.locks c) (Enter c) refl)) (λ k e. rw e))

  hold_answers : of_read (answer_of (Hold s c) σ) ≡ true
  unfolding answer_of plan_of plan hold_plan hold_slot answer plan_effect
  hold_answers =
      looks _ (which (slot_in (log_of σ s) x.count c) (λ e. rw e (enters (lock_at σ.lent.locks c) (EnterMark c) refl)) (λ k e. rw e))

seal_answers : (s : ℕ) (σ : Store) → of_seal (answer_of (Seal s) σ) ≡ true
unfolding answer_of plan_of plan seal_plan seal_target answer plan_effect
seal_answers s σ =
    let Q : Plan → Type 0 = λ p. of_seal (answer s p σ) ≡ true in
    let x = record_of σ s in
    let target : Q (seal_target (target_in (log_of σ s) x.count 0)) = which (target_in (log_of σ s) x.count 0) (λ e. rw e) (λ c e. rw e) in
    admitted Q (λ k. refl) σ.lent s _ (guarded Q (λ k. refl) (size σ.lent) (log_of σ s) x (eqb x.phase 1) _ (λ t u. target))

-- ---- of the code: some sixteen records have the one handed in

given : (P : Answer → Bool) (k : Call) (B C : Buffers) (x y : Session) (a : Answer) → ((σ : Store) → P (answer_of k σ) ≡ true)
    → TakesRecord k B x a C y → P a ≡ true
unfolding effect
given P k B C x y a h t =
    let ss = with_session (record { records = replicate 16 idle }) (session_of k % 16) x in
    let e = t ours (goes_by_ours k) ss (session_same (record { records = replicate 16 idle }) (session_of k % 16) x refl (omega arith)) in
    ap (λ (o : Outcome). P o.answer) e ∙ h (record { lent = B; limits = ours; sessions = ss })

module _ (s : ℕ) (B C : Buffers) (x y : Session) (a : Answer) where
  pub begin_gives : TakesRecord (Begin s) B x a C y → of_begin a ≡ true
  begin_gives = given of_begin (Begin s) B C x y a (begin_answers s)

  pub read_gives : (c : ℕ) → TakesRecord (Read s c) B x a C y → of_read a ≡ true
  read_gives c = given of_read (Read s c) B C x y a (read_answers s c)

  pub hold_gives : (c : ℕ) → TakesRecord (Hold s c) B x a C y → of_read a ≡ true
  hold_gives c = given of_read (Hold s c) B C x y a (hold_answers s c)

  pub seal_gives : TakesRecord (Seal s) B x a C y → of_seal a ≡ true
  seal_gives = given of_seal (Seal s) B C x y a (seal_answers s)
