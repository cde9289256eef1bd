-- Where a transaction's snapshot and commit stand: at places of what it tells, the snapshot after its begin.
use Prim.Native.Nat.{ℕ, suc, ◌<◌}
use native.Mathlib.Omega.{arith}
use mathlib.Core.Path.{◌≡◌, refl, sym, subst}
use mathlib.Core.Logic.{inl, inr}
use mathlib.Core.Bool.{true, cond, ◌&&◌}
use mathlib.Core.List.{List, [], ◌∷◌}
use lib.Dec.{eqb}
use lib.ListN.{length}
use borrow.Author.Tests.{ltb-true}
use Rattle.model.specs.History.{Item, Name, cells_written, snapshot, moves_in, move_number, commit, committed}
use Rattle.model.specs.Isolation.{All, Any, at, Commits, snapshot_of, commit_of, ToldAt}
use Rattle.model.specs.Told.{seals, moves}
use Rattle.model.proofs.Matching.{Stands}
use Rattle.model.proofs.Tools.{test, both_l}

snapshot_any : (x : Name) (t : List Item) → All (Stands x) t → 0 < snapshot t
    → Any (λ (i : Item). (i.place ≡ snapshot t) × (seals i.told ≡ true)) t × (x.place < snapshot t)
unfolding snapshot
snapshot_any x [] a h = absurd (omega arith)
snapshot_any x (i ∷ t) a h =
    test (seals i.told) (λ y. rw y (inl (refl, refl), a.0 y))
    (λ y.
    let e : snapshot (i ∷ t) ≡ snapshot t = rw y in
    let w = snapshot_any x t a.1 (rw y at h) in
    subst (λ (k : ℕ). Any (λ (j : Item). (j.place ≡ k) × (seals j.told ≡ true)) (i ∷ t) × (x.place < k)) (sym e) (inr w.0, w.1))

move_any : (m : ℕ) (t : List Item) → 0 < move_number m t → Any (λ (i : Item). (i.place ≡ move_number m t) × (moves i.told ≡ true)) t
unfolding move_number
move_any m [] h = absurd (omega arith)
move_any m (i ∷ t) h =
    test (moves i.told && eqb (suc (moves_in t)) m) (λ y. rw y (inl (refl, both_l (moves i.told) (eqb (suc (moves_in t)) m) y)))
    (λ y.
    let e : move_number m (i ∷ t) ≡ move_number m t = rw y in
    subst (λ (k : ℕ). Any (λ (j : Item). (j.place ≡ k) × (moves j.told ≡ true)) (i ∷ t)) (sym e) (inr (move_any m t (rw y at h))))

module _ (start : List ℕ) (h : List Item) (x : Name) (stands : All (Stands x) (at start h x)) where
  pub snapshot_own : 0 < snapshot_of start h x → ToldAt start h x (snapshot_of start h x) seals × (x.place < snapshot_of start h x)
  snapshot_own l = snapshot_any x (at start h x) stands l

  pub commit_own : Commits start h x → ToldAt start h x (commit_of start h x) (λ w. cond (eqb (cells_written (length start) (at start h x)) 0) (seals w) (moves w))
  unfolding committed commit
  commit_own d =
      let t = at start h x in
      let l = ltb-true 0 (commit (length start) t) d in
      test (eqb (cells_written (length start) t) 0)
      (λ y. rw y (snapshot_any x t stands (rw y at l)).0)
      (λ y. rw y (move_any (cells_written (length start) t) t (rw y at l)))
