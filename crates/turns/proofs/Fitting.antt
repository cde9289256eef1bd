-- The change of the locks that each call's turn hands back can be carried out: its cell has a lock, or its entries can be swept.
use mathlib.Core.Path.{◌≡◌, refl, sym}
use mathlib.Core.Bool.{Bool, true, not, ◌&&◌, ◌||◌}
use mathlib.Core.Option.{Option, none, some}
use mathlib.Core.List.{List}
use Prim.Native.Nat.{ℕ, ◌<◌, ◌≤◌}
use native.Mathlib.Omega.{arith}
use borrow.Author.Tests.{eqb-true}
use lib.Dec.{eqb, ltb}
use lib.ListN.{length}
use Rattle.model.specs.Buffers.{Limits, entry_at, slot_in, target_in}
use Rattle.model.specs.Readers.{other_readers}
use Rattle.model.specs.Plans.{claimed, promote_plan, record_fits, guard, known, seal_target, seal_plan, peek_slot, peek_plan, plan}
use Rattle.model.specs.Turns.{turn_of}
use Rattle.records.specs.declared.Session.{Session}
use Rattle.records.specs.declared.Lock.{Lock}
use Rattle.records.specs.declared.Call.{Call}
use Rattle.records.specs.declared.Call.TheVariants as call
use Rattle.records.specs.declared.Plan.{Plan}
use Rattle.records.specs.declared.Plan.TheVariants.{Refuse, Start, Tell, Enter, Update, EnterUpdate, Mark, EnterMark, RollBack, Cancel, CommitReads, BeginPromotion, Wait, Acquire, Publish, Release, ShowStore, ShowLog}
use Rattle.model.proofs.Tools.{split, test}
use Rattle.sweeps.specs.Sweeps.{Swept}
use Rattle.locks.specs.Changes.{ChangeFits}
use Rattle.advance.specs.Pieces.{due_on, due_cell, advance_on, due_plan}
use Rattle.targets.specs.declared.Next.{Next}
use Rattle.records.specs.declared.Refusal.{Refusal}
use Rattle.std.specs.Prelude.{Result, Ok, Err}
use Rattle.model.proofs.Passing.{Entries, record_entries}
use Rattle.turns.proofs.Guards.{guarded}
use Rattle.advance.proofs.Agree.{Advancing, due_known, advance_agree}
use Rattle.calls.proofs.Choices.{Choice, refuses, knows, enters, read_choice, hold_choice, write_choice}

-- what a plan asks of the session's log and record, of n cells
unfoldable PlanFits : ℕ → List ℕ → Session → Plan → Type 0
PlanFits n log x (Refuse k) = Unit
PlanFits n log x Start = Unit
PlanFits n log x (Tell v) = Unit
PlanFits n log x (Enter c) = c < n
PlanFits n log x (Update k v) = Unit
PlanFits n log x (EnterUpdate c v) = c < n
PlanFits n log x (Mark k v) = Unit
PlanFits n log x (EnterMark c) = c < n
PlanFits n log x RollBack = Entries n log x
PlanFits n log x Cancel = Entries n log x
PlanFits n log x CommitReads = Entries n log x
PlanFits n log x BeginPromotion = Entries n log x
PlanFits n log x (Wait c k) = c < n
PlanFits n log x (Acquire c) = c < n
PlanFits n log x (Publish c v) = Unit
PlanFits n log x (Release c) = c < n
PlanFits n log x (ShowStore c) = Unit
PlanFits n log x (ShowLog k) = Unit

module _ (n : ℕ) (log : List ℕ) (x : Session) where
  -- ---- read, hold and write

  choice_fits : (l : Lock) (c : ℕ) (known : ℕ → Plan) (new p q : Plan) → ((k : ℕ) → PlanFits n log x (known k)) → (c < n → PlanFits n log x new)
      → Choice n log x l c known new p q → PlanFits n log x q
  choice_fits l c known new p q f g (refuses r h i) = rw i (unfold PlanFits in tt)
  choice_fits l c known new p q f g (knows k j h i) = rw i (f k)
  choice_fits l c known new p q f g (enters j m w h i) = rw i (split (PlanFits n log x) (claimed l) (λ t. unfold PlanFits in w) (λ t. g j))

  -- ---- advance

  entry_fits : (l : Lock) (s k : ℕ) {more : Bool} → Advancing n log x k more → PlanFits n log x (advance_on log x l s k)
  unfolding advance_on promote_plan PlanFits
  entry_fits l s k a =
      split (PlanFits n log x) (eqb x.phase 2)
      (λ t.
      split (PlanFits n log x) (claimed l && not (eqb l.claimant s)) (λ u. a.entries)
      (λ u. split (PlanFits n log x) (eqb (other_readers s l.readers) 0) (λ v. a.cell) (λ v. a.cell)))
      (λ t. split (PlanFits n log x) (eqb x.phase 3) (λ u. tt) (λ u. a.cell))

  due_plan_fits : (l : Lock) (s : ℕ) (r : Result Next Refusal) → r ≡ due_on n log x → PlanFits n log x (due_plan s log x l r)
  due_plan_fits l s (Err q) e = unfold PlanFits due_plan in tt
  due_plan_fits l s (Ok d) e = unfold due_plan in entry_fits l s d.slot (due_known n log x d (sym e))

  -- ---- every call

  tested : (b : Bool) (p : Plan) → (record_fits n log x ≡ true → b ≡ true → PlanFits n log x p) → PlanFits n log x (guard n log x b p)
  tested = guarded (PlanFits n log x) (λ k. unfold PlanFits in tt) n log x

  entered : record_fits n log x ≡ true → (k : ℕ) → eqb x.phase k ≡ true → 0 < k → Entries n log x
  entered t k u i = let e = eqb-true x.phase k u in record_entries n log x t (omega arith)

  sealed : (o : Option ℕ) → Entries n log x → PlanFits n log x (seal_target o)
  unfolding seal_target PlanFits
  sealed none e = e
  sealed (some c) e = e

  peeked : (c : ℕ) (o : Option ℕ) → PlanFits n log x (known n c (peek_slot log c o))
  unfolding known peek_slot PlanFits
  peeked c none = split (PlanFits n log x) (ltb c n) (λ t. tt) (λ t. tt)
  peeked c (some k) = split (PlanFits n log x) (ltb c n) (λ t. split (PlanFits n log x) (entry_at log k).dirty (λ u. tt) (λ u. tt)) (λ t. tt)

  plan_fits : (ks : List ℕ) (G : Limits) (lock : ℕ → Lock) (k : Call) → PlanFits n log x (plan k n ks G log x lock)
  plan_fits ks G lock (call.Begin s) = unfold plan in tested (eqb x.phase 0) Start (λ t u. unfold PlanFits in tt)
  plan_fits ks G lock (call.Read s c) =
      unfold plan PlanFits in
      choice_fits (lock c) c (λ k. Tell (entry_at log k).current) (Enter c) _ _ (λ k. tt) (λ i. i) (read_choice n log x (lock c) c)
  plan_fits ks G lock (call.Write s c v) =
      unfold plan PlanFits in
      choice_fits (lock c) c (λ k. Update k v) (EnterUpdate c v) _ _ (λ k. tt) (λ i. i) (write_choice n log x (lock c) c G.caps ks v)
  plan_fits ks G lock (call.Seal s) =
      unfold plan seal_plan in
      tested (eqb x.phase 1) (seal_target (target_in log x.count 0)) (λ t u. sealed (target_in log x.count 0) (entered t 1 u (omega arith)))
  plan_fits ks G lock (call.Advance s) =
      rw (← advance_agree n s ks G log x lock) (due_plan_fits (lock (due_cell log (due_on n log x))) s (due_on n log x) refl)
  plan_fits ks G lock (call.Abandon s) =
      unfold plan in
      tested (eqb x.phase 1 || eqb x.phase 2) Cancel
      (λ t u. unfold PlanFits in test (eqb x.phase 1) (λ i. entered t 1 i (omega arith)) (λ i. entered t 2 (rw i at u) (omega arith)))
  plan_fits ks G lock (call.Peek s c) = unfold plan peek_plan in tested (eqb x.phase 1) _ (λ t u. peeked c (slot_in log x.count c))
  plan_fits ks G lock (call.Hold s c) =
      unfold plan PlanFits in
      choice_fits (lock c) c (λ k. Mark k (entry_at log k).current) (EnterMark c) _ _ (λ k. tt) (λ i. i) (hold_choice n log x (lock c) c)

  -- ---- the change of the locks

  module _ (s : ℕ) (vs : List ℕ) (low : s < 16) (whole : length log ≡ 128) (few : n ≤ 1024) where
    swept : Entries n log x → Swept s log x.count n
    swept e = record { session = low; count = (let w = e.count in omega arith); cells = e.cells }

    change_fits : (p : Plan) → PlanFits n log x p → ChangeFits (turn_of p vs log x).change s (turn_of p vs log x).log x.count n
    unfolding turn_of ChangeFits PlanFits
    change_fits (Refuse k) f = tt
    change_fits Start f = tt
    change_fits (Tell v) f = tt
    change_fits (Enter c) f = f
    change_fits (Update k v) f = tt
    change_fits (EnterUpdate c v) f = f
    change_fits (Mark k v) f = tt
    change_fits (EnterMark c) f = f
    change_fits RollBack f = swept f
    change_fits Cancel f = swept f
    change_fits CommitReads f = (swept f, few)
    change_fits BeginPromotion f = (swept f, few)
    change_fits (Wait c k) f = f
    change_fits (Acquire c) f = f
    change_fits (Publish c v) f = tt
    change_fits (Release c) f = f
    change_fits (ShowStore c) f = tt
    change_fits (ShowLog k) f = tt

    -- of any call, by its plan
    pub call_fits : (ks : List ℕ) (G : Limits) (lock : ℕ → Lock) (k : Call) (p : Plan) → p ≡ plan k n ks G log x lock
        → ChangeFits (turn_of p vs log x).change s (turn_of p vs log x).log x.count n
    call_fits ks G lock k p e = change_fits p (rw e (plan_fits ks G lock k))
