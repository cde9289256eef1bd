-- The claim judges: a lost update, a dirty read, a broken snapshot, a read ahead, a stale value among many reads, a false value found, two holders whose spans meet and a false value held do not meet it; write skew
-- does, and so does a cell written back while another changes it. Each is computed; what is accepted is the theorem's.
use Prim.Native.Nat.{◌<◌}
use native.Mathlib.Omega.{arith}
use mathlib.Core.Path.{◌≡◌, refl, ap, subst}
use mathlib.Core.Logic.{◌⊎◌, inl, inr}
use mathlib.Core.Bool.{Bool, true, false, not, ◌&&◌, ◌||◌}
use mathlib.Core.List.{List, [], ◌∷◌, ◌++◌, reverse}
use lib.Dec.{leb, eqb}
use borrow.Author.Tests.{le-leb, leb-true}
use Rattle.records.specs.declared.Call.TheVariants.{Begin, Write, Seal, Advance}
use Rattle.model.specs.Anomalies.{lost_update, dirty_read, broken_snapshot, read_ahead, read_together, found_as, held_together, held_stale}
use Rattle.model.specs.Computing.{computing, counting}
use Rattle.model.specs.History.{Action, one_call, many_reads, as_actions, Event, events, Item, told, history, Name, name, transaction, is_open, wrote, value_written, dirtied, snapshot, commit, committed}
use Rattle.model.specs.Isolation.{Last, last_commit, no_commit, Isolated}
use Rattle.model.specs.Orders.{given, skew, skew_unsealed, changed_meanwhile}
use Rattle.model.specs.Step.{set_up}
use Rattle.model.proofs.Demand3.{demand3}
use Rattle.model.proofs.Names.{committed_in}
use Rattle.model.proofs.Tools.{clash}

-- ---- four of single calls

-- two writers of cell 0 whose spans meet
pub lost_update_refused : Isolated (3 ∷ 5 ∷ []) (told [] lost_update) → ⊥
unfolding lost_update counting
lost_update_refused i = go (i.apart (name 1 0) (name 2 1) 0 (λ e. let z = ap (λ (x : Name). x.place) e in omega arith) refl refl refl refl)
  where
    go : (9 < 8) ⊎ (10 < 7) → ⊥
    go (inl h) = omega arith
    go (inr h) = omega arith

-- 4 is nobody's commit and not the starting value
pub dirty_read_refused : Isolated (3 ∷ 5 ∷ []) (told [] dirty_read) → ⊥
unfolding dirty_read counting
dirty_read_refused i = go (i.reads (name 3 1) refl).0
  where
    free : Name → Bool
    free x = not (committed 2 (transaction x (told [] dirty_read)) && wrote (transaction x (told [] dirty_read)) 0)

    go : Last (3 ∷ 5 ∷ []) (told [] dirty_read) 0 5 4 → ⊥
    go (no_commit _ e) = omega arith
    go (last_commit x c _ _) = clash (free x) (committed_in 2 free (told [] dirty_read) refl x c.commits) (rw (c.commits, c.wrote))

-- of two commits to cell 0 the reader got the older
pub broken_snapshot_refused : Isolated (3 ∷ 5 ∷ []) (told [] broken_snapshot) → ⊥
unfolding broken_snapshot counting
broken_snapshot_refused i = go (i.reads (name 13 2) refl).1.0
  where
    older : Name → Bool
    older x = not (eqb (value_written (transaction x (told [] broken_snapshot)) 0) 4 && leb 12 (commit 2 (transaction x (told [] broken_snapshot))))

    go : Last (3 ∷ 5 ∷ []) (told [] broken_snapshot) 0 16 4 → ⊥
    go (no_commit non e) = omega arith
    go (last_commit x c newest e) =
        let l = newest (name 7 1) (record { commits = refl; wrote = refl; before = omega arith }) in
        clash (older x) (committed_in 2 older (told [] broken_snapshot) refl x c.commits) (rw (e, le-leb 12 (commit 2 (transaction x (told [] broken_snapshot))) l))

-- 6 is committed after the snapshot, and the starting value is 5
pub read_ahead_refused : Isolated (3 ∷ 5 ∷ []) (told [] read_ahead) → ⊥
unfolding read_ahead counting
read_ahead_refused i = go (i.reads (name 1 0) refl).0
  where
    later : Name → Bool
    later x = not (wrote (transaction x (told [] read_ahead)) 1 && leb (commit 2 (transaction x (told [] read_ahead))) 7)

    not_both : (a b : Bool) → a ≡ true → b ≡ true → not (a && b) ≡ false
    not_both a b e f = rw (e, f)

    go : Last (3 ∷ 5 ∷ []) (told [] read_ahead) 1 7 6 → ⊥
    go (no_commit _ e) = omega arith
    go (last_commit x c _ _) =
        clash (later x) (committed_in 2 later (told [] read_ahead) refl x c.commits)
        (not_both (wrote (transaction x (told [] read_ahead)) 1) (leb (commit 2 (transaction x (told [] read_ahead))) 7) c.wrote
        (le-leb (commit 2 (transaction x (told [] read_ahead))) 7 (omega (arith, c.before))))

-- ---- many reads

-- of cell 1 the last commit's value is 6
pub stale_together_refused : Isolated (3 ∷ 5 ∷ []) (told [] (read_together 5)) → ⊥
unfolding read_together counting
stale_together_refused i = go (i.reads (name 11 1) refl).0
  where
    six : Name → Bool
    six x = not (wrote (transaction x (told [] (read_together 5))) 1) || eqb (value_written (transaction x (told [] (read_together 5))) 1) 6

    go : Last (3 ∷ 5 ∷ []) (told [] (read_together 5)) 1 13 5 → ⊥
    go (no_commit non _) = non (name 1 0) (record { commits = refl; wrote = refl; before = omega arith })
    go (last_commit x c _ e) = clash (six x) (committed_in 2 six (told [] (read_together 5)) refl x c.commits) (rw (c.wrote, e))

-- the store answers 6, and the claim holds
abbrev pub in_one_call : List Action
in_one_call =
    as_actions (Begin 0 ∷ Write 0 0 4 ∷ Write 0 1 6 ∷ Seal 0 ∷ Advance 0 ∷ Advance 0 ∷ Advance 0 ∷ Advance 0 ∷ Advance 0 ∷ Advance 0 ∷ Begin 1 ∷ [])
    ++ many_reads 1 (0 ∷ 1 ∷ []) 2 ∷ one_call (Seal 1) ∷ []

pub answers_together : events (set_up (given skew)) (reverse in_one_call) ≡ read_together 6
unfolding read_together skew given computing counting
answers_together = refl

pub together_accepted : Isolated (3 ∷ 5 ∷ []) (told [] (read_together 6))
together_accepted =
    subst (λ (h : List Event). Isolated (3 ∷ 5 ∷ []) (told [] h)) answers_together (unfold skew given computing in (demand3 (given skew) refl in_one_call).isolated)

-- ---- values written back

-- 4 is not what the store had; with 3 found the cell is written, and its commit is no seal
pub found_another_refused : Isolated (3 ∷ 5 ∷ []) (told [] (found_as 4)) → ⊥
unfolding found_as counting
found_another_refused i = go (i.finds (name 1 0) refl).0
  where
    free : Name → Bool
    free x = not (committed 2 (transaction x (told [] (found_as 4))) && wrote (transaction x (told [] (found_as 4))) 0)

    go : Last (3 ∷ 5 ∷ []) (told [] (found_as 4)) 0 3 4 → ⊥
    go (no_commit _ e) = omega arith
    go (last_commit x c _ _) = clash (free x) (committed_in 2 free (told [] (found_as 4)) refl x c.commits) (rw (c.commits, c.wrote))

pub unpublished_uncommitted : committed 2 (transaction (name 1 0) (told [] (found_as 3))) ≡ false
unfolding found_as counting
unpublished_uncommitted = refl

-- a session writes a cell back and another changes it, with spans that meet: both commit, only the other wrote the cell, and the claim holds of them
abbrev pub backed : List Item
backed = history [] (set_up (given changed_meanwhile)) (reverse (as_actions changed_meanwhile.calls))

pub back_commits : (wrote (transaction (name 1 0) backed) 0 ≡ false) × (dirtied (transaction (name 1 0) backed) 0 ≡ true) × (wrote (transaction (name 2 1) backed) 0 ≡ true)
    × (snapshot (transaction (name 1 0) backed) ≡ 6) × (commit 2 (transaction (name 1 0) backed) ≡ 9)
    × (snapshot (transaction (name 2 1) backed) ≡ 7) × (commit 2 (transaction (name 2 1) backed) ≡ 8)
unfolding changed_meanwhile given counting computing
back_commits = (refl, refl, refl, refl, refl, refl, refl)

pub back_accepted : Isolated (3 ∷ 5 ∷ []) backed
unfolding changed_meanwhile given computing
back_accepted = (demand3 (given changed_meanwhile) refl (as_actions changed_meanwhile.calls)).isolated

-- ---- holds

pub held_together_refused : Isolated (3 ∷ 5 ∷ []) (told [] held_together) → ⊥
unfolding held_together counting
held_together_refused i = go (i.apart (name 1 0) (name 2 1) 0 (λ e. let z = ap (λ (x : Name). x.place) e in omega arith) refl refl refl refl)
  where
    go : (7 < 6) ⊎ (8 < 5) → ⊥
    go (inl h) = omega arith
    go (inr h) = omega arith

-- 4 is nobody's commit before the seal and not the starting value
pub held_stale_refused : Isolated (3 ∷ 5 ∷ []) (told [] held_stale) → ⊥
unfolding held_stale counting
held_stale_refused i = go (i.reads (name 1 0) refl).0
  where
    later : Name → Bool
    later x = not (committed 2 (transaction x (told [] held_stale))) || leb 4 (commit 2 (transaction x (told [] held_stale)))

    go : Last (3 ∷ 5 ∷ []) (told [] held_stale) 0 3 4 → ⊥
    go (no_commit _ e) = omega arith
    go (last_commit x c _ _) =
        let l : leb 4 (commit 2 (transaction x (told [] held_stale))) ≡ true = rw c.commits at (committed_in 2 later (told [] held_stale) refl x c.commits) in
        omega (arith, c.before, leb-true 4 (commit 2 (transaction x (told [] held_stale))) l)

-- ---- write skew

abbrev pub skewed : List Item
skewed = history [] (set_up (given skew)) (reverse (as_actions skew.calls))

-- both transactions commit, with spans that meet
pub skew_commits : (committed 2 (transaction (name 1 0) skewed) ≡ true) × (committed 2 (transaction (name 2 1) skewed) ≡ true)
    × (snapshot (transaction (name 1 0) skewed) ≡ 9) × (commit 2 (transaction (name 1 0) skewed) ≡ 11)
    × (snapshot (transaction (name 2 1) skewed) ≡ 10) × (commit 2 (transaction (name 2 1) skewed) ≡ 14)
unfolding skew given counting computing
skew_commits = (refl, refl, refl, refl, refl, refl)

-- and the claim holds of them
pub skew_accepted : Isolated (3 ∷ 5 ∷ []) skewed
unfolding skew given computing
skew_accepted = (demand3 (given skew) refl (as_actions skew.calls)).isolated

-- ---- a transaction that waits

abbrev pub waited : List Item
waited = history [] (set_up (given skew_unsealed)) (reverse (as_actions skew_unsealed.calls))

-- it is open, has written cell 0 and is not committed: the claim says that it does not hold all its writer locks
pub waiting_uncommitted : (is_open (transaction (name 1 0) waited) ≡ true) × (committed 2 (transaction (name 1 0) waited) ≡ false)
    × (wrote (transaction (name 1 0) waited) 0 ≡ true)
unfolding skew_unsealed given computing counting
waiting_uncommitted = (refl, refl, refl)
