-- An advance is decided at the entry that is due.
use mathlib.Core.Path.{◌≡◌, refl, sym, ap}
use mathlib.Core.Bool.{Bool, true, false, cond}
use mathlib.Core.Option.{Option, none, some}
use mathlib.Core.List.{List}
use Prim.Native.Nat.{ℕ, ◌<◌, ◌≤◌}
use native.Mathlib.Omega.{arith}
use borrow.Author.Tests.{lt-leb, le-leb, leb-true, leb-false}
use lib.Dec.{leb}
use Rattle.model.specs.Search.{some?}
use Rattle.model.specs.Buffers.{Limits, cell_at, entry_of, look_in, target_in}
use Rattle.model.specs.Plans.{entries_fit, record_fits, guard, advance_target, plan}
use Rattle.model.specs.Effects.{is_left}
use Rattle.records.specs.declared.Session.{Session}
use Rattle.records.specs.declared.Lock.{Lock}
use Rattle.records.specs.declared.Call.TheVariants.{Advance}
use Rattle.records.specs.declared.Plan.{Plan}
use Rattle.records.specs.declared.Plan.TheVariants.{Refuse}
use Rattle.model.proofs.Tools.{test, nothing, both_l}
use Rattle.model.proofs.Laws.{below_is}
use Rattle.session_log.specs.Slots.{slot_of, target_slot, is_more}
use Rattle.session_log.proofs.Targets.{slot_some}
use Rattle.advance.specs.Pieces.{due_at, due_on, due_cell, DueFits, advance_on, due_plan}
use Rattle.targets.specs.declared.Next.{Next}
use Rattle.records.specs.declared.Refusal.{Refusal}
use Rattle.records.specs.declared.Refusal.TheVariants.{WrongPhase, DamagedRecord}
use Rattle.records.specs.Records.{refusal_number}
use Rattle.std.specs.Prelude.{Result, Ok, Err}
use Rattle.model.proofs.Passing.{Entries, entries_of}
use Rattle.advance.proofs.Ways.{target_slot_lem}

-- ---- advance: the entry that is due, with the lock of its cell

module _ (n s : ℕ) (ks : List ℕ) (G : Limits) (log : List ℕ) (x : Session) (lock : ℕ → Lock) where
  abbrev due_with : Result Next Refusal → Plan
  due_with d = due_plan s log x (lock (due_cell log d)) d

  -- an entry of the lowest written cell is there
  advance_slot : (o : Option ℕ) → target_in log x.count x.next ≡ o
      → due_with (due_at log x.count (slot_of log x.count o)) ≡ cond (some? o) (advance_target s log x lock o) (Refuse 9)
  unfolding slot_of due_at due_plan due_cell advance_on advance_target look_in entry_of
  advance_slot none e = refl
  advance_slot (some c) e = let w = target_slot_lem log x.count x.next e in rw (w.1, w.3)

  pub advance_agree : due_with (due_on n log x) ≡ plan (Advance s) n ks G log x lock
  unfolding plan due_plan due_cell due_on guard record_fits target_slot
  advance_agree =
      test (entries_fit n log x)
      (λ h.
      test (leb 2 x.phase)
      (λ t. let two = leb-true 2 x.phase t in rw (h, t, lt-leb x.phase 1 two) (advance_slot _ refl))
      (λ t. let one = leb-false 2 x.phase t in rw (h, t, le-leb x.phase 1 (omega arith))))
      (λ h. rw h)

-- ---- what an entry that is due says of the record

-- an advance at entry k is of a session in phases 2 to 4, with that entry
pub record Advancing (n : ℕ) (log : List ℕ) (x : Session) (k : ℕ) (more : Bool) : Type 0 where
  pub from : 2 ≤ x.phase
  pub upto : x.phase ≤ 4
  pub entries : Entries n log x
  pub slot : k < x.count
  pub cell : cell_at log k < n
  pub left : more ≡ is_left log (cell_at log k) x

not_due : {r : Refusal} {d : Next} → Err r ≡ Ok d → ⊥
not_due e = cc

picks : (log : List ℕ) (m : ℕ) (a b : Bool) (o : Option ℕ) {d : Next} → cond a (cond b (due_at log m o) (Err WrongPhase)) (Err DamagedRecord) ≡ Ok d
    → (a ≡ true) × (b ≡ true) × (o ≡ some d.slot) × (d.more ≡ is_more log m (some d.slot))
unfolding due_at
picks log m true true none e = absurd (not_due e)
picks log m true true (some j) {d} e =
    let w : record { slot = j; more = is_more log m (some j) } ≡ d = cc in
    (refl, refl, ap (λ (f : Next). some f.slot) w, rw (← w) refl)
picks log m true false o e = absurd (not_due e)
picks log m false b o e = absurd (not_due e)

slot_below : (log : List ℕ) (m : ℕ) (o : Option ℕ) {k : ℕ} → slot_of log m o ≡ some k → k < m
unfolding slot_of
slot_below log m none e = nothing e
slot_below log m (some c) e = (slot_some log m c e).0

pub due_known : (n : ℕ) (log : List ℕ) (x : Session) (d : Next) → due_on n log x ≡ Ok d → Advancing n log x d.slot d.more
unfolding due_on target_slot entries_fit is_more is_left
due_known n log x d e =
    let w = picks log x.count (entries_fit n log x) (leb 2 x.phase) (target_slot log x.count x.next) e in
    let two = leb-true 2 x.phase w.1 in
    let fit = entries_of n log x w.0 (omega arith) in
    let i = slot_below log x.count _ w.2 in
    record {
      from = two;
      upto = leb-true x.phase 4 (both_l (leb x.phase 4) _ w.0);
      entries = fit;
      slot = i;
      cell = below_is n (cell_at log) x.count fit.cells d.slot i;
      left = w.3;
    }

pub due_fits : (n : ℕ) (log : List ℕ) (x : Session) (r : Result Next Refusal) → r ≡ due_on n log x → DueFits r
unfolding DueFits
due_fits n log x (Err r) e = tt
due_fits n log x (Ok d) e = let a = due_known n log x d (sym e) in omega (arith, a.slot, a.entries.count)

-- ---- by what an advance found due

module _ (r : Result Next Refusal) (s : ℕ) (log : List ℕ) (x : Session) (l : Lock) where
  pub plan_refused : (q : Refusal) → r ≡ Err q → due_plan s log x l r ≡ Refuse (refusal_number q)
  unfolding due_plan
  plan_refused q e = rw e

  pub plan_due : (d : Next) → r ≡ Ok d → advance_on log x l s d.slot ≡ due_plan s log x l r
  unfolding due_plan
  plan_due d e = rw e

-- what is due, from the entry's side
module _ (n : ℕ) (log : List ℕ) (x : Session) (d : Next) (e : Ok d ≡ due_on n log x) where
  pub known : Advancing n log x d.slot d.more
  known = due_known n log x d (sym e)

  pub left_at : (c : ℕ) → c ≡ cell_at log d.slot → d.more ≡ is_left log c x
  left_at c q = rw q known.left
