-- Of each word and claim that is no number or test, a small history or store of model/specs/Words.antt of which it holds and one of which it does not.
use Prim.Native.Nat.{ℕ, ◌≤◌, ◌<◌}
use native.Mathlib.Omega.{arith}
use mathlib.Core.Path.{◌≡◌, refl, sym, ◌∙◌, ap, subst}
use mathlib.Core.Logic.{◌⊎◌, inl, inr}
use mathlib.Core.Bool.{Bool, true, false, cond, not, ◌&&◌, ◌||◌}
use mathlib.Core.List.{List, [], ◌∷◌, reverse}
use lib.Dec.{leb, eqb}
use lib.ListN.{get_or, take}
use borrow.Author.Tests.{eqb-true, eqb-false, leb-true, ltb-true}
use Rattle.records.specs.declared.Call.TheVariants.{Begin, Read, Write, Seal, Advance, Abandon, Hold}
use Rattle.records.specs.declared.Answer.TheVariants.{Done, Value, Moved, Waiting, Refused}
use Rattle.model.specs.Cases.{state, session, store_with}
use Rattle.records.specs.declared.Lock.{Lock}
use Rattle.model.specs.Buffers.{Store}
use Rattle.model.specs.Caps.{GotWithin, WithinCaps}
use Rattle.model.specs.Load.{with_caps}
use Rattle.model.specs.OwnCaps.{low, high}
use Rattle.model.specs.Computing.{computing, counting}
use Rattle.model.specs.History.{one_call, many_reads, as_actions, event, with_found, reads_event, Item, item, run, told, history, Name, name, transaction, wrote, value_written, cells_written, reads_before_writing, values_found}
use Rattle.model.specs.Isolation.{All, Commits, snapshot_of, commit_of, ToldAt, CommitsTo, Last, last_commit, no_commit, Isolated, Holds, firsts, HoldsAtCommit, Demand3}
use Rattle.model.specs.Effects.{number, value_of}
use Rattle.model.specs.InTheWay.{publishes_cell, is_reader, InTheWay, SealLetsGo, TellsOthers, others_in_the_way, WaitsForThose, EachWaitsForThose}
use Rattle.model.specs.Orders.{given, listing}
use Rattle.model.specs.Readers.{member}
use Rattle.model.specs.Search.{tally}
use Rattle.model.specs.Serial.{serial_step, serial, NoneOpen, ReadsSerially, Undisturbed, SeriallyEqual}
use Rattle.model.specs.Step.{step, answer_of, set_up}
use Rattle.model.specs.Told.{began, got, put, held, sealed, moved, seals, moves, ReadOf}
use Rattle.model.specs.Words.{wrote_then_read, first_read, midway, told_running, told_sealed}
use Rattle.model_claims.proofs.InTheWay.{in_the_way}
use Rattle.model.proofs.Names.{name_by_test, committed_in, none_open, none_open_lem}
use Rattle.model.proofs.Tools.{clash}

abbrev first : List ℕ
first = 3 ∷ 5 ∷ []

-- ---- commits before a place

abbrev committing : List Item
committing = told [] wrote_then_read

-- session 0's fourth call is an advance of its own, and its third is not
pub told_at : ToldAt first committing (name 1 0) 4 moves
unfolding wrote_then_read counting
told_at = inl (refl, refl)

pub told_at_not : ToldAt first committing (name 1 0) 3 moves → ⊥
unfolding wrote_then_read counting
told_at_not (inl e) = eqb-false 4 3 refl e.0
told_at_not (inr (inl e)) = clash false e.1 refl
told_at_not (inr (inr (inl e))) = clash false e.1 refl
told_at_not (inr (inr (inr (inl e)))) = clash false e.1 refl
told_at_not (inr (inr (inr (inr x)))) = elim x [ ]

-- session 0's commit, at place 4, is one to cell 1 and to no other, and before place 5 and not before place 4; the reader's is to no cell
pub commits_to : CommitsTo first committing 1 5 (name 1 0)
unfolding wrote_then_read counting
commits_to = record { commits = refl; wrote = refl; before = omega arith }

pub commits_to_not : (CommitsTo first committing 1 4 (name 1 0) → ⊥) × (CommitsTo first committing 0 5 (name 1 0) → ⊥) × (CommitsTo first committing 1 8 (name 5 1) → ⊥)
unfolding wrote_then_read counting
commits_to_not = (λ c. let l : 4 < 4 = c.before in omega arith, λ c. clash false c.wrote refl, λ c. clash false c.wrote refl)

-- what holds of it holds of each commit to cell 1: there is no other
implied : (a b : Bool) → (not a || b) ≡ true → a ≡ true → b ≡ true
implied true b h e = h
implied false b h e = absurd (clash false e refl)

each_commit : (f : Name → Bool) → f (name 1 0) ≡ true → (q : ℕ) (x : Name) → CommitsTo first committing 1 q x → f x ≡ true
each_commit f t q x c =
    implied (wrote (transaction x committing) 1) (f x) (committed_in 2 g committing (unfold wrote_then_read counting in rw t) x c.commits) c.wrote
  where
    g : Name → Bool
    g x = not (wrote (transaction x committing) 1) || f x

none_before : (x : Name) → CommitsTo first committing 1 4 x → ⊥
none_before x c =
    omega (arith, c.before, leb-true 4 (commit_of first committing x) (each_commit (λ x. leb 4 (commit_of first committing x)) (unfold wrote_then_read counting in refl) 4 x c))

-- it is the last before place 7, with its value; before place 4 there is none, and the value is the starting value
pub last_commit_lem : Last first committing 1 7 4
last_commit_lem =
    let e : commit_of first committing (name 1 0) ≡ 4 = unfold wrote_then_read counting in refl in
    last_commit (name 1 0) (unfold wrote_then_read counting in record { commits = refl; wrote = refl; before = omega arith })
    (λ y c. omega (arith, e, leb-true (commit_of first committing y) 4 (each_commit (λ x. leb (commit_of first committing x) 4) (unfold wrote_then_read counting in refl) 7 y c)))
    (unfold wrote_then_read counting in refl)

pub starting_value_lem : Last first committing 1 4 5
starting_value_lem = no_commit none_before refl

pub last_commit_not : (Last first committing 1 7 5 → ⊥) × (Last first committing 1 4 4 → ⊥)
last_commit_not = (stale, early)
  where
    stale : Last first committing 1 7 5 → ⊥
    stale (no_commit non _) = non (name 1 0) (unfold wrote_then_read counting in record { commits = refl; wrote = refl; before = omega arith })
    stale (last_commit x c _ e) =
        let t = each_commit (λ x. eqb (value_written (transaction x committing) 1) 4) (unfold wrote_then_read counting in refl) 7 x c in
        omega (arith, e, eqb-true (value_written (transaction x committing) 1) 4 t)

    early : Last first committing 1 4 4 → ⊥
    early (no_commit _ e) = omega arith
    early (last_commit x c _ _) = none_before x c

-- ---- the claim about transactions

-- it holds of one that reads a starting value and commits with its seal
pub first_read_isolated : Isolated first (told [] first_read)
first_read_isolated =
    record {
      snapshots = λ x d. subst (λ (x : Name). (x.place < snapshot_of first h x) × (snapshot_of first h x ≤ commit_of first h x) × ToldAt first h x (snapshot_of first h x) seals) (only x d)
          (unfold first_read counting in (omega arith, omega arith, inr (inl (refl, refl))));
      commits = λ x d. subst (λ (x : Name). ToldAt first h x (commit_of first h x) (λ w. cond (eqb (cells_written 2 (transaction x h)) 0) (seals w) (moves w))) (only x d)
          (unfold first_read counting in inr (inl (refl, refl)));
      reads = λ x d. subst (λ (x : Name). All (λ (r : ReadOf). Last first h r.cell (snapshot_of first h x) r.value) (reads_before_writing (transaction x h))) (only x d)
          (unfold first_read counting in (no_commit (λ y c. clash false (subst (λ (x : Name). wrote (transaction x h) 1 ≡ true) (sym (only y c.commits)) c.wrote) refl) refl, tt));
      finds = λ x d. subst (λ (x : Name). All (λ (r : ReadOf). Last first h r.cell (snapshot_of first h x) r.value) (values_found (transaction x h))) (only x d) (unfold first_read counting in tt);
      apart = λ x y c ne d e. absurd (ne (sym (only x d) ∙ only y e));
    }
  where
    h : List Item
    h = told [] first_read

    only : (x : Name) → Commits first (told [] first_read) x → name 1 0 ≡ x
    only x d =
        let t = committed_in 2 (λ x. eqb x.place 1 && eqb x.session 0) (told [] first_read) (unfold first_read counting in refl) x d in
        name_by_test 1 0 x t

-- not of one that is sealed where it begins, nor of one that is sealed after its commit
pub sealed_too_early : Isolated first (item 5 0 sealed ∷ item 5 0 began ∷ []) → ⊥
unfolding counting
sealed_too_early i = let l : 5 < 5 = (i.snapshots (name 5 0) refl).0 in omega arith

pub sealed_too_late : Isolated first (item 3 0 moved ∷ item 4 0 sealed ∷ item 2 0 (put 0 4 3) ∷ item 1 0 began ∷ []) → ⊥
unfolding counting
sealed_too_late i = let l : 4 ≤ 3 = (i.snapshots (name 1 0) refl).1 in omega arith

-- ---- writer locks

pub holds : Holds (midway 2 4 1 1) 1 0
unfolding midway computing
holds = (refl, refl)

-- not without the mark, nor where another is claimant
pub holds_not : (Holds (midway 2 4 1 0) 1 0 → ⊥) × (Holds (midway 2 4 0 1) 1 0 → ⊥) × (Holds (midway 2 4 1 1) 1 1 → ⊥)
unfolding midway computing
holds_not = (λ h. eqb-false 0 1 refl h.1, λ h. eqb-false 0 1 refl h.0, λ h. eqb-false 16 1 refl h.0)

-- a commit without the claim, and one without the mark: the commit is an advance in phase 3
pub commit_unclaimed : HoldsAtCommit told_sealed (midway 3 4 16 1) (one_call (Advance 1) ∷ []) → ⊥
unfolding midway told_sealed firsts computing counting
commit_unclaimed h = eqb-false 16 1 refl (h.with_this (name 0 1) refl 0 refl).0

-- the lock held later, when the same session runs again, does not count
pub claimed_after_commit : HoldsAtCommit told_sealed (midway 3 4 16 1) (as_actions (Advance 1 ∷ Seal 1 ∷ Write 1 0 5 ∷ Begin 1 ∷ Advance 1 ∷ Advance 1 ∷ [])) → ⊥
unfolding midway told_sealed firsts computing counting
claimed_after_commit h = eqb-false 16 1 refl (h.with_this (name 0 1) refl 0 refl).0

pub commit_unmarked : HoldsAtCommit told_sealed (midway 3 4 1 0) (one_call (Advance 1) ∷ []) → ⊥
unfolding midway told_sealed firsts computing counting
commit_unmarked h = eqb-false 0 1 refl (h.with_this (name 0 1) refl 0 refl).1

-- all locks held before the commit, and without one: in phase 2 the lock of the one cell written is held already
held_midway : (c : ℕ) → wrote (transaction (name 0 1) told_sealed) c ≡ true → Holds (midway 2 4 1 1) 1 c
held_midway c w = subst (Holds (midway 2 4 1 1) 1) (eqb-true 0 c (only (eqb 0 c) (unfold told_sealed counting in w))) holds
  where
    only : (b : Bool) → cond b true false ≡ true → b ≡ true
    only true h = refl
    only false h = h

pub held_before_commit : HoldsAtCommit told_sealed (midway 2 4 1 1) (one_call (Advance 1) ∷ []) → ⊥
unfolding midway told_sealed firsts computing counting
held_before_commit h = h.not_before (name 0 1) 0 refl (omega arith) (omega arith) 0 refl held_midway

pub held_uncommitted : HoldsAtCommit told_sealed (midway 2 4 1 1) [] → ⊥
unfolding midway told_sealed computing counting
held_uncommitted h = h.not_uncommitted (name 0 1) refl refl 0 refl held_midway

-- ---- demand 3

-- what is told at the start counts: a value read there that is not the store's, by a transaction that then commits; and a commit without the claim
pub read_at_start : Demand3 (told_running 9) (midway 1 4 16 0) (as_actions (Seal 1 ∷ Advance 1 ∷ [])) → ⊥
unfolding midway told_running computing counting
read_at_start d = go (d.isolated.reads (name 0 1) refl).0
  where
    go : Last first (history (told_running 9) (midway 1 4 16 0) (as_actions (Advance 1 ∷ Seal 1 ∷ []))) 0 1 9 → ⊥
    go (no_commit _ e) = omega arith
    go (last_commit x c _ _) =
        omega (arith, c.before, ltb-true 0 (commit_of first (history (told_running 9) (midway 1 4 16 0) (as_actions (Advance 1 ∷ Seal 1 ∷ []))) x) c.commits)

pub unclaimed_at_start : Demand3 told_sealed (midway 3 4 16 1) (one_call (Advance 1) ∷ []) → ⊥
unclaimed_at_start d = commit_unclaimed d.locks

-- ---- who is in the way

-- after a short list, by the theorem: sessions 0 and 1 are readers of cell 0 and publish it, and 0 is its claimant
pub claimed_and_read : InTheWay (run (set_up (given listing)) (reverse (as_actions (take 9 listing.calls))))
claimed_and_read = in_the_way (given listing) (unfold listing given computing in refl) (as_actions (take 9 listing.calls))

-- not a reader past its seal that does not publish the cell, nor a claimant that does not
pub reader_sealed : InTheWay (midway 2 3 16 0) → ⊥
unfolding midway member computing
reader_sealed w = go (w.readers 1 0 (omega arith) refl)
  where
    go : (◌≡◌ {A = ℕ} 2 1) ⊎ (false ≡ true) → ⊥
    go (inl e) = omega arith
    go (inr e) = clash false e refl

pub claimant_unpublishing : InTheWay (midway 1 3 1 0) → ⊥
unfolding midway computing
claimant_unpublishing w = go (w.claimants 0 (omega arith))
  where
    go : (◌≡◌ {A = ℕ} 1 16) ⊎ (false ≡ true) → ⊥
    go (inl e) = omega arith
    go (inr e) = clash false e refl

-- a seal meets the premises: it is answered 105, does not publish the cell that it wrote back, and was its reader
pub sealed_back : (number (answer_of (Seal 1) (midway 1 3 16 0)) ≡ 105) × (publishes_cell (step (Seal 1) (midway 1 3 16 0)) 1 0 ≡ false)
    × (is_reader (midway 1 3 16 0) 1 0 ≡ true) × (is_reader (step (Seal 1) (midway 1 3 16 0)) 1 0 ≡ false)
unfolding midway member computing
sealed_back = (refl, refl, refl, refl)

-- not one that leaves its session a reader of a cell outside its log
pub left_a_reader : SealLetsGo (store_with 1 (state (session 1 0 0) [] (3 ∷ 5 ∷ []) (2 ∷ 0 ∷ []) (16 ∷ 16 ∷ []) (0 ∷ 0 ∷ []))) 1 → ⊥
unfolding store_with member computing
left_a_reader g = clash true refl (g (inr refl) 0 (omega arith) refl)

-- ---- how many are in the way

-- on a store that no list leaves a session waits for a reader, and is told one; nobody is in the way there
abbrev stray_reader : Store
stray_reader = store_with 1 (state (session 2 1 0) (0 ∷ 8 ∷ 4 ∷ 1 ∷ []) (3 ∷ 5 ∷ []) (4 ∷ 0 ∷ []) (16 ∷ 16 ∷ []) (0 ∷ 0 ∷ []))

pub waits_for_a_stray : (number (answer_of (Advance 1) stray_reader) ≡ 104) × (value_of (answer_of (Advance 1) stray_reader) ≡ 1)
unfolding store_with computing
waits_for_a_stray = (refl, refl)

pub waits_for_those_not : WaitsForThose stray_reader 1 → ⊥
unfolding store_with others_in_the_way tally computing
waits_for_those_not w = let e : ◌≡◌ {A = ℕ} 1 0 = (w refl).2 in omega arith

pub each_waits_not : EachWaitsForThose stray_reader (one_call (Advance 1) ∷ []) → ⊥
unfolding run
each_waits_not w = waits_for_those_not (w.1 1 refl)

-- what the promotion step promises of that lock: not two; of one that it reads alone, not none; of other answers nothing
abbrev lock : ℕ → Lock
lock readers = record { readers = readers; claimant = 16; exclusive = 0 }

pub tells_others : TellsOthers (lock 4) 1 (Waiting 1) × TellsOthers (lock 4) 1 Moved
unfolding computing
tells_others = (λ _. (refl, omega arith, λ _. omega arith), λ e. absurd (omega arith))

pub tells_others_not : (TellsOthers (lock 4) 1 (Waiting 2) → ⊥) × (TellsOthers (lock 2) 1 (Waiting 0) → ⊥)
unfolding computing
tells_others_not = (λ w. let e : ◌≡◌ {A = ℕ} 2 1 = (w refl).0 in omega arith, λ w. let l : 0 < 0 = (w refl).1 in omega arith)

-- ---- caps

-- of a value got, by its cell's class; of the values that a list leaves, and of those that it is answered
pub got_within : GotWithin (midway 1 4 16 0) (got 0 8) × GotWithin (midway 1 4 16 0) (put 0 9 3)
unfolding midway computing
got_within = (omega arith, tt)

pub got_within_not : (GotWithin (midway 1 4 16 0) (got 0 9) → ⊥) × (GotWithin (midway 1 4 16 0) (got 1 8) → ⊥)
unfolding midway computing
got_within_not = (λ l. let h : 9 ≤ 8 = l in omega arith, λ l. let h : 8 ≤ 6 = l in omega arith)

-- a hold's is one
pub held_within : GotWithin (midway 1 4 16 0) (held 0 8 3) × (GotWithin (midway 1 4 16 0) (held 0 9 3) → ⊥)
unfolding midway computing
held_within = (omega arith, λ l. let h : 9 ≤ 8 = l in omega arith)

pub stored_above : WithinCaps (midway 3 9 1 1) (one_call (Advance 1) ∷ []) → ⊥
unfolding midway computing counting
stored_above w = let h : 9 ≤ 8 = w.stored 0 in omega arith

pub got_above : WithinCaps (midway 1 9 16 0) (one_call (Read 1 0) ∷ []) → ⊥
unfolding midway computing counting
got_above w = let h : 9 ≤ 8 = w.got.1.0 in omega arith

pub got_above_held : WithinCaps (midway 1 9 16 0) (one_call (Hold 1 0) ∷ []) → ⊥
unfolding midway computing counting
got_above_held w = let h : 9 ≤ 8 = w.got.1.0 in omega arith

pub got_above_many : WithinCaps (midway 1 9 16 0) (many_reads 1 (1 ∷ 0 ∷ []) 2 ∷ []) → ⊥
unfolding midway computing counting
got_above_many w = let h : 9 ≤ 8 = w.got.1.0 in omega arith

-- no entry in use above its cap; by another table, which does not change what is answered, the same value is within it or above it
pub logged_above : WithinCaps (midway 1 9 16 0) [] → ⊥
unfolding midway computing counting
logged_above w = let h : 9 ≤ 8 = w.logged 1 0 (λ e. omega arith, omega arith) in omega arith

pub got_within_high : GotWithin (with_caps high (midway 1 4 16 0)) (got 0 9)
unfolding midway computing
got_within_high = omega arith

pub got_above_low : WithinCaps (with_caps low (midway 1 8 16 0)) (one_call (Read 1 0) ∷ []) → ⊥
unfolding midway computing counting
got_above_low w = let h : 8 ≤ 7 = w.got.1.0 in omega arith

-- ---- one after the other

pub undisturbed : Undisturbed Done × Undisturbed (Refused 2)
undisturbed = ((λ e. eqb-false 100 6 refl e, λ e. eqb-false 100 104 refl e), (λ e. eqb-false 2 6 refl e, λ e. eqb-false 2 104 refl e))

pub undisturbed_not : (Undisturbed (Refused 6) → ⊥) × (Undisturbed (Waiting 1) → ⊥)
undisturbed_not = (λ u. u.0 refl, λ u. u.1 refl)

pub open_not : NoneOpen (told [] (event (Begin 0) Done ∷ [])) → ⊥
unfolding counting
open_not f = clash true refl (f (name 1 0))

-- a value read is the own write's
pub reads_draft : ReadsSerially first (event (Read 0 0) (Value 4) ∷ event (Write 0 0 4) Done ∷ event (Begin 0) Done ∷ [])
unfolding counting serial serial_step
reads_draft = (((tt, (tt, tt)), (tt, tt)), (refl, tt))

pub reads_draft_not : ReadsSerially first (event (Read 0 0) (Value 3) ∷ event (Write 0 0 4) Done ∷ event (Begin 0) Done ∷ []) → ⊥
unfolding counting serial serial_step
reads_draft_not r = eqb-false 3 4 refl r.1.0

-- and so is a hold's
pub reads_draft_held : ReadsSerially first (event (Hold 0 0) (Value 4) ∷ event (Write 0 0 4) Done ∷ event (Begin 0) Done ∷ [])
unfolding counting serial serial_step
reads_draft_held = (((tt, (tt, tt)), (tt, tt)), (refl, tt))

pub reads_draft_held_not : ReadsSerially first (event (Hold 0 0) (Value 3) ∷ event (Write 0 0 4) Done ∷ event (Begin 0) Done ∷ []) → ⊥
unfolding counting serial serial_step
reads_draft_held_not r = eqb-false 3 4 refl r.1.0

-- and each of many
pub reads_draft_many : ReadsSerially first (reads_event 0 (1 ∷ 0 ∷ []) 2 (5 ∷ 4 ∷ []) (Value 4) ∷ event (Write 0 0 4) Done ∷ event (Begin 0) Done ∷ [])
unfolding counting serial serial_step
reads_draft_many = (((tt, (tt, tt)), (tt, tt)), (refl, (refl, tt)))

pub reads_draft_many_not : ReadsSerially first (reads_event 0 (0 ∷ 1 ∷ []) 2 (3 ∷ 5 ∷ []) (Value 5) ∷ event (Write 0 0 4) Done ∷ event (Begin 0) Done ∷ []) → ⊥
unfolding counting serial serial_step
reads_draft_many_not r = eqb-false 3 4 refl r.1.1.0

-- a value read that the serial store has not, an answer 6, and a value left that only an abandoned draft has
pub reads_another : SeriallyEqual (midway 1 4 16 0) (one_call (Read 1 0) ∷ []) → ⊥
unfolding midway computing counting serial serial_step
reads_another e = eqb-false 4 3 refl e.reads.1.0

pub disturbed : SeriallyEqual (midway 2 4 0 0) (one_call (Advance 1) ∷ []) → ⊥
unfolding midway computing counting serial serial_step
disturbed e = e.undisturbed.0.0 refl

pub leaves_another : SeriallyEqual (midway 3 4 16 1) (as_actions (Advance 1 ∷ Abandon 0 ∷ Write 0 0 4 ∷ Begin 0 ∷ [])) → ⊥
unfolding midway none_open computing counting serial serial_step
leaves_another e =
    eqb-false 4 3 refl
    (ap (λ (l : List ℕ). get_or l 0 0)
    (e.left (none_open_lem (told [] (event (Advance 1) Moved ∷ event (Abandon 0) Done ∷ with_found 3 (event (Write 0 0 4) Done) ∷ event (Begin 0) Done ∷ [])) refl)))
