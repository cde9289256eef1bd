-- For fields of the claims in model/specs, one by one, a store or a list that the claim excludes by that field: most by computation. At the end, what the claim on a hold
-- says of its answer and of the store that it leaves.
use Prim.Native.Nat.{ℕ, ◌≤◌, ◌<◌}
use native.Mathlib.Omega.{arith}
use mathlib.Core.Path.{◌≡◌, refl, sym, ◌∙◌, ap, subst}
use mathlib.Core.Logic.{inl, inr}
use mathlib.Core.Option.{Option, none, some}
use mathlib.Core.Bool.{Bool, true, false, cond, ◌&&◌}
use mathlib.Core.List.{List, [], ◌∷◌, ◌++◌, reverse}
use lib.Dec.{eqb}
use lib.ListN.{length, replicate}
use borrow.Author.Tests.{eqb-true}
use Rattle.records.specs.declared.Answer.TheVariants.{Done, Value, Sealed, Moved, Refused}
use Rattle.records.specs.declared.Call.TheVariants.{Begin, Read, Write, Seal, Advance, Hold}
use Rattle.model.specs.Buffers.{Store, ours, idle, slot_in}
use Rattle.model.specs.Caps.{WithinCaps}
use Rattle.model.specs.Cases.{state, session, store_with}
use Rattle.model.specs.CommitOrder.{ByCommit, ReadsInOrder, CoversReads, CoveredInOrder, InCommitOrder}
use Rattle.model.specs.Computing.{computing, counting}
use Rattle.model.specs.Effects.{number, record_of, log_of}
use Rattle.model.specs.History.{Action, one_call, as_actions, Event, event, with_found, run, events, Item, told, Name, name, wrote, transaction, reads_before_writing}
use Rattle.model.specs.HoldAsRead.{held_at, and_held, HoldsAsRead}
use Rattle.model.specs.InTheWay.{SealLetsGo, others_in_the_way, WaitsForThose}
use Rattle.model.specs.Isolation.{All, at, Commits, snapshot_of, commit_of, Last, last_commit, no_commit, Isolated, Holds, firsts, Demand3OfCode}
use Rattle.model.specs.Load.{with_caps, Unread}
use Rattle.model.specs.ManyReads.{Reads, stopped}
use Rattle.model.specs.OwnCaps.{low, high, level, one_cell}
use Rattle.model.specs.Readers.{member}
use Rattle.model.specs.Search.{tally}
use Rattle.model.specs.SingleReads.{AsSingle}
use Rattle.model.specs.Step.{Outcome, effect}
use Rattle.model.specs.Told.{Told, began, got, put, held, sealed, moved, ended, ReadOf}
use Rattle.model.specs.Words.{midway}
use Rattle.model.proofs.CommitOrder.{one_order}
use Rattle.model.proofs.Names.{name_by_test, committed_in}
use Rattle.model.proofs.Tools.{clash, split}

abbrev pub first : List ℕ
first = 3 ∷ 5 ∷ []

-- ---- the order by commits

-- told that a hold got and found 4 in cell 0, where the starting value is 3; it commits
abbrev pub held_four : List Event
held_four = event (Advance 0) Moved ∷ event (Seal 0) Sealed ∷ with_found 4 (event (Hold 0 0) (Value 4)) ∷ event (Begin 0) Done ∷ []

abbrev h : List Item
h = told [] held_four

abbrev x : Name
x = name 1 0

only_x : (z : Name) → Commits first h z → x ≡ z
only_x z d = name_by_test 1 0 z (committed_in 2 (λ z. eqb z.place 1 && eqb z.session 0) h (unfold counting in refl) z d)

order_x : ByCommit first h (x ∷ [])
order_x = record { committed = unfold counting in (refl, tt); every = λ z d. inl (only_x z d); newest_first = (tt, tt) }

module _ {τ : Store} (i : InCommitOrder first h τ) where
  in_order : i.order ≡ x ∷ []
  in_order = one_order first h i.order (x ∷ []) i.by_commit order_x

  pub covered_misread : ⊥
  covered_misread = go (subst (CoveredInOrder first h) in_order i.covered)
    where
      go : CoveredInOrder first h (x ∷ []) → ⊥
      go c = unfold counting in let e : ◌≡◌ {A = ℕ} 4 3 = (c.0 (inr (refl, tt))).0 in omega arith

  pub all_misread : ⊥
  all_misread = go (subst (ReadsInOrder first h) in_order (i.reads covers))
    where
      of_x : CoversReads first h x
      of_x = unfold counting in inr (refl, tt)

      covers : (z : Name) → Commits first h z → CoversReads first h z
      covers z d = subst (CoversReads first h) (only_x z d) of_x

      go : ReadsInOrder first h (x ∷ []) → ⊥
      go c = unfold counting in let e : ◌≡◌ {A = ℕ} 4 3 = c.0.0 in omega arith

-- ---- demand 3 of code

-- the number of the newest answer
abbrev newest : List Event → ℕ
newest [] = 0
newest (e ∷ h) = number e.answer

pub answered_another : Demand3OfCode (midway 1 4 16 0) (one_call (Read 1 1) ∷ []) (event (Read 1 1) (Refused 3) ∷ []) (run (midway 1 4 16 0) (one_call (Read 1 1) ∷ [])) → ⊥
unfolding midway computing counting
answered_another d = let e : ◌≡◌ {A = ℕ} 3 101 = ap newest d.events in omega arith

pub left_another : Demand3OfCode (midway 1 4 16 0) [] [] (midway 2 4 16 0) → ⊥
unfolding midway computing counting
left_another d = let e : ◌≡◌ {A = ℕ} 2 1 = ap (λ (σ : Store). (record_of σ 1).phase) d.left in omega arith

misread : Isolated first h → ⊥
misread i = go (i.reads x (unfold counting in refl))
  where
    last : Last first h 0 3 4 → ⊥
    last (last_commit z c _ _) = let e : commit_of first h z ≡ 4 = ap (commit_of first h) (sym (only_x z c.commits)) ∙ (unfold counting in refl) in omega (arith, e, c.before)
    last (no_commit _ e) = omega arith

    go : All (λ (r : ReadOf). Last first h r.cell (snapshot_of first h x) r.value) (reads_before_writing (at first h x)) → ⊥
    go r = unfold counting in last r.0

pub not_isolated : {σ τ : Store} {actions : List Action} → σ.lent.values ≡ first → Demand3OfCode σ actions held_four τ → ⊥
not_isolated {σ} e d = misread (subst (λ (vs : List ℕ). Isolated vs h) e d.isolated)

-- session 1 is claimant of cell 0 with mark 1 where its transaction begins, until session 0 lets the cell go; no list of calls leaves that
abbrev locked_before : Store
locked_before =
    record {
      lent = record {
        values = first;
        classes = 2 ∷ 2 ∷ [];
        locks = record { readers = 1 ∷ 0 ∷ []; claimants = 1 ∷ 16 ∷ []; exclusives = 1 ∷ 0 ∷ [] };
        logs = 0 ∷ 3 ∷ 4 ∷ 1 ∷ replicate 2044 0;
      };
      limits = ours;
      sessions = record { records = record { phase = 4; count = 1; next = 0 } ∷ replicate 15 idle };
    }

abbrev then_commits : List Action
then_commits = as_actions (Begin 1 ∷ Advance 0 ∷ Write 1 0 4 ∷ Seal 1 ∷ Advance 1 ∷ [])

pub locked_too_early : {h : List Event} {τ : Store} → Demand3OfCode locked_before then_commits h τ → ⊥
unfolding firsts computing counting
locked_too_early d = d.locks.not_before (name 1 1) 1 refl (omega arith) (omega arith) 0 refl held
  where
    held : (c : ℕ) → wrote (transaction (name 1 1) (told [] (events locked_before (reverse then_commits)))) c ≡ true → Holds (run locked_before (firsts 1 (reverse then_commits))) 1 c
    held c w = unfold firsts computing counting in subst (Holds (run locked_before (firsts 1 (reverse then_commits))) 1) (eqb-true 0 c (only (eqb 0 c) w)) (refl, refl)
      where
        only : (b : Bool) → cond b true false ≡ true → b ≡ true
        only true h = refl
        only false h = h

-- ---- many reads and single reads

abbrev two : ℕ → Reads
two v = record { values = v ∷ []; last = Value v; store = midway 1 4 16 0 }

pub single_left : AsSingle Done [] [] (midway 2 4 16 0) (stopped Done (midway 1 4 16 0)) → ⊥
unfolding midway computing
single_left a = let e : ◌≡◌ {A = ℕ} 1 2 = ap (λ (σ : Store). (record_of σ 1).phase) a.left in omega arith

pub single_last : {σ : Store} → AsSingle Done [] [] σ (stopped (Refused 2) σ) → ⊥
single_last a = let e : ◌≡◌ {A = ℕ} 2 100 = ap number a.last in omega arith

pub single_values : {σ : Store} → AsSingle Done (0 ∷ []) [] σ (two 7) → ⊥
single_values a = let e : ◌≡◌ {A = ℕ} 1 0 = ap length a.values in omega arith

pub single_before : {σ : Store} {r : Reads} {cs : List ℕ} → AsSingle Done cs (event (Read 0 1) (Value 7) ∷ event (Read 0 0) (Refused 3) ∷ []) σ r → ⊥
single_before a = let e : ◌≡◌ {A = ℕ} 3 101 = a.before.0 in omega arith

-- the value of the newest thing told
abbrev value_of_told : Told → ℕ
value_of_told began = 0
value_of_told (got c v) = v
value_of_told (put c v f) = v
value_of_told (held c v f) = v
value_of_told sealed = 0
value_of_told moved = 0
value_of_told ended = 0

abbrev newest_got : List Told → ℕ
newest_got [] = 0
newest_got (w ∷ ws) = value_of_told w

pub single_told : {σ : Store} → AsSingle Done (0 ∷ []) (event (Read 0 0) (Value 8) ∷ []) σ (two 7) → ⊥
unfolding counting
single_told a = let e : ◌≡◌ {A = ℕ} 7 8 = ap newest_got a.told in omega arith

-- ---- who reads the table

-- a write by another table leaves another log
pub write_leaves_another : Unread (Write 0 0 8) low (one_cell high 2) → ⊥
unfolding computing
write_leaves_another u = let e : ◌≡◌ {A = ℕ} 0 1 = ap (λ (σ : Store). (record_of σ 0).count) u.left in omega arith

-- ---- caps

-- by a table that does not pass, and by one that has not 16 caps
pub table_unfit : (WithinCaps (with_caps level (midway 1 4 16 0)) [] → ⊥) × (WithinCaps (with_caps (2 ∷ 4 ∷ 90 ∷ []) (midway 1 2 16 0)) [] → ⊥)
unfolding midway computing counting
table_unfit = (λ w. clash false w.table.1 refl, λ w. clash false w.table.0 refl)

-- an entry above its cap past the seal
pub logged_above_late : (WithinCaps (midway 2 9 1 0) [] → ⊥) × (WithinCaps (midway 4 9 1 1) [] → ⊥)
unfolding midway computing counting
logged_above_late = (λ w. let h : 9 ≤ 8 = w.logged 1 0 (λ e. omega arith, omega arith) in omega arith, λ w. let h : 9 ≤ 8 = w.logged 1 0 (λ e. omega arith, omega arith) in omega arith)

-- ---- who is in the way

-- a seal answered 102 that leaves its session a reader of a cell outside its log
pub left_a_reader_sealed : SealLetsGo (store_with 1 (state (session 1 1 0) (0 ∷ 8 ∷ 4 ∷ 1 ∷ []) (3 ∷ 5 ∷ []) (2 ∷ 2 ∷ []) (16 ∷ 16 ∷ []) (0 ∷ 0 ∷ []))) 1 → ⊥
unfolding store_with member computing
left_a_reader_sealed g = clash true refl (g (inl refl) 1 (omega arith) refl)

-- one is in the way at cell 1, and nobody at cell 0, where the advance waits
abbrev other_cell : Store
other_cell =
    record {
      lent = record {
        values = 3 ∷ 5 ∷ [];
        classes = 2 ∷ 2 ∷ [];
        locks = record { readers = 4 ∷ 1 ∷ []; claimants = 16 ∷ 16 ∷ []; exclusives = 0 ∷ 0 ∷ [] };
        logs = 1 ∷ 5 ∷ 5 ∷ 0 ∷ (replicate 124 0 ++ (0 ∷ 8 ∷ 4 ∷ 1 ∷ replicate 1916 0));
      };
      limits = ours;
      sessions = record { records = record { phase = 1; count = 1; next = 0 } ∷ record { phase = 2; count = 1; next = 0 } ∷ replicate 14 idle };
    }

pub way_elsewhere : (others_in_the_way other_cell 1 1 ≡ 1) × (others_in_the_way other_cell 1 0 ≡ 0)
unfolding others_in_the_way tally computing
way_elsewhere = (refl, refl)

pub waits_at_due_not : WaitsForThose other_cell 1 → ⊥
unfolding others_in_the_way tally computing
waits_at_due_not w = go (w refl)
  where
    cell_in : Option ℕ → ℕ
    cell_in none = 7
    cell_in (some c) = c

    go : (c : ℕ) × (◌≡◌ {A = Option ℕ} (some 0) (some c)) × (◌≡◌ {A = ℕ} 1 (others_in_the_way other_cell 1 c)) × (0 < 1) × (1 ≤ 15) → ⊥
    go p = let e : ◌≡◌ {A = ℕ} 1 0 = subst (λ (c : ℕ). ◌≡◌ {A = ℕ} 1 (others_in_the_way other_cell 1 c)) (sym (ap cell_in p.1)) p.2 in omega arith

-- ---- a hold against a read

-- where the claim holds, a hold answers what the read answers
module _ (s c : ℕ) (σ : Store) (e : HoldsAsRead s c σ) where
  abbrev read : Outcome
  read = effect (Read s c) σ

  pub hold_answers_as_read : (effect (Hold s c) σ).answer ≡ read.answer
  unfolding and_held
  hold_answers_as_read =
      ap (λ (o : Outcome). o.answer) e
      ∙ split (λ (o : Outcome). o.answer ≡ read.answer) (eqb (number read.answer) 101) (λ _. refl) (λ _. refl)

  -- with 101 the entry is held, and all else is what the read left
  pub hold_leaves_held : eqb (number read.answer) 101 ≡ true
      → (effect (Hold s c) σ).store ≡ held_at s (slot_in (log_of read.store s) (record_of read.store s).count c) read.store
  unfolding and_held
  hold_leaves_held y = ap (λ (o : Outcome). o.store) e ∙ rw y

  pub hold_refused_leaves : eqb (number read.answer) 101 ≡ false → (effect (Hold s c) σ).store ≡ read.store
  unfolding and_held
  hold_refused_leaves y = ap (λ (o : Outcome). o.store) e ∙ rw y
