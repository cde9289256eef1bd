-- The order theorem and its condition, on small lists: write skew does not meet the condition, and its reads are those of no order; with holds in place of its reads one
-- of the two is rolled back or comes after, and the theorem applies.
use Prim.Native.Nat.{ℕ, zero, suc, ◌<◌}
use native.Mathlib.Omega.{arith}
use mathlib.Core.Path.{◌≡◌, refl, sym, ◌∙◌, ap, subst}
use mathlib.Core.Logic.{◌⊎◌, inl, inr}
use mathlib.Core.Bool.{Bool, true, false, cond, not, ◌&&◌, ◌||◌}
use mathlib.Core.List.{List, [], ◌∷◌, reverse}
use lib.Dec.{eqb}
use lib.ListN.{get_or, replicate}
use borrow.Author.Tests.{eqb-false}
use Rattle.model.specs.Buffers.{Store, idle, session_at}
use Rattle.model.specs.CommitOrder.{ByCommit, value_after, ReadsInOrder, CoversReads, ReadsByHolds, NonePublishing, InCommitOrder}
use Rattle.model.specs.Computing.{computing, counting}
use Rattle.model.specs.History.{as_actions, run, Item, item, history, Name, name, transaction, wrote, value_written, reads_before_writing, committed}
use Rattle.model.specs.Isolation.{All, Any, Commits}
use Rattle.model.specs.Holding.{skew_held, skew_after, skew_back, reader_between}
use Rattle.model.specs.Orders.{Row, given, skew, half_published}
use Rattle.model.specs.Step.{set_up}
use Rattle.model.specs.Told.{Told, began, got, put, held, sealed, moved, ended, ReadOf}
use Rattle.model.proofs.CommitOrder.{holds_cover, one_order, in_commit_order}
use Rattle.model.proofs.Invariant.{all_map}
use Rattle.model.proofs.Names.{name_by_test, committed_in}
use Rattle.model.proofs.Tools.{test, clash}

abbrev first : List ℕ
first = 3 ∷ 5 ∷ []

-- what a row tells, and the store that it leaves
abbrev pub told_by : Row → List Item
told_by r = history [] (set_up (given r)) (reverse (as_actions r.calls))

abbrev pub left_by : Row → Store
left_by r = run (set_up (given r)) (reverse (as_actions r.calls))

-- the transactions of the two sessions
abbrev x : Name
x = name 1 0

abbrev y : Name
y = name 2 1

abbrev OneOf : Name → Type 0
OneOf z = (x ≡ z) ⊎ (y ≡ z)

-- by a test
abbrev both : Name → Bool
both z = (eqb z.place 1 && eqb z.session 0) || (eqb z.place 2 && eqb z.session 1)

either : (z : Name) → both z ≡ true → OneOf z
either z h =
    test (eqb z.place 1 && eqb z.session 0)
    (λ a. inl (name_by_test 1 0 z a)) (λ a. inr (name_by_test 2 1 z (rw a at h)))

-- ---- write skew

-- what it tells, the newest first
abbrev skew_told : List Item
skew_told =
    item 16 1 ended ∷ item 15 1 moved ∷ item 14 1 moved ∷ item 13 0 ended ∷ item 12 0 moved ∷ item 11 0 moved ∷ item 10 1 sealed ∷ item 9 0 sealed
    ∷ item 8 1 (put 1 2 5) ∷ item 7 0 (put 0 1 3) ∷ item 6 1 (got 1 5) ∷ item 5 1 (got 0 3) ∷ item 4 0 (got 1 5) ∷ item 3 0 (got 0 3) ∷ item 2 1 began ∷ item 1 0 began ∷ []

skew_told_lem : told_by skew ≡ skew_told
unfolding skew given computing counting
skew_told_lem = refl

-- neither wrote or held what it read and did not change
pub skew_uncovered : (CoversReads first (told_by skew) x → ⊥) × (CoversReads first (told_by skew) y → ⊥)
skew_uncovered = rw skew_told_lem (of_x, of_y)
  where
    of_x : CoversReads first skew_told x → ⊥
    of_x (inl e) = unfold counting in eqb-false 1 0 refl e
    of_x (inr a) = unfold counting in clash false a.0 refl

    of_y : CoversReads first skew_told y → ⊥
    of_y (inl e) = unfold counting in eqb-false 1 0 refl e
    of_y (inr a) = unfold counting in clash false a.1.0 refl

-- the order by commit place: x, then y
pub skew_order : ByCommit first (told_by skew) (y ∷ x ∷ [])
skew_order =
    rw skew_told_lem
    (record {
      committed = unfold counting in (refl, (refl, tt));
      every = λ z d. go z (either z (committed_in 2 both skew_told (unfold counting in refl) z d));
      newest_first = unfold counting in ((omega arith, tt), (tt, tt));
    })
  where
    go : (z : Name) → OneOf z → Any (λ (w : Name). w ≡ z) (y ∷ x ∷ [])
    go z (inl e) = inr (inl e)
    go z (inr e) = inl e

-- of two transactions a alone wrote cell c, and b read another value there than a left
record Unseen (h : List Item) (a b : Name) (c : ℕ) : Type 0 where
  written : wrote (transaction a h) c ≡ true
  spared : wrote (transaction b h) c ≡ false
  read : (f : ℕ → ℕ) → f c ≡ value_written (transaction a h) c → All (λ (r : ReadOf). r.value ≡ f r.cell) (reads_before_writing (transaction b h)) → ⊥

module _ (h : List Item) (a b : Name) (c : ℕ) (u : Unseen h a b c) where
  -- after a, and whatever else of the two, the cell has what a left
  left : (zs : List Name) → All (λ (z : Name). (a ≡ z) ⊎ (b ≡ z)) zs → Any (λ (z : Name). z ≡ a) zs → value_after first h zs c ≡ value_written (transaction a h) c
  left [] o i = absurd i
  left (z ∷ zs) o i = go (left zs o.1) o.0 i
    where
      go : (Any (λ (z : Name). z ≡ a) zs → value_after first h zs c ≡ value_written (transaction a h) c) → (a ≡ z) ⊎ (b ≡ z) → (z ≡ a) ⊎ Any (λ (z : Name). z ≡ a) zs
          → value_after first h (z ∷ zs) c ≡ value_written (transaction a h) c
      go f (inl e) _ = rw (← e, u.written)
      go f (inr e) (inl d) = absurd (clash (wrote (transaction a h) c) u.written (rw (← (e ∙ d)) u.spared))
      go f (inr e) (inr i) = rw (← e, u.spared) (f i)

  -- so b does not come after it
  not_after : (zs : List Name) → All (λ (z : Name). (a ≡ z) ⊎ (b ≡ z)) zs → Any (λ (z : Name). z ≡ a) zs → ReadsInOrder first h (b ∷ zs) → ⊥
  not_after zs o i r = u.read (value_after first h zs) (left zs o i) r.0

-- in skew y did not see what x left in cell 0, nor x what y left in cell 1
x_unseen : Unseen skew_told x y 0
unfolding counting
x_unseen = record { written = refl; spared = refl; read = λ f e r. omega (arith, e, r.1.0) }

y_unseen : Unseen skew_told y x 1
unfolding counting
y_unseen = record { written = refl; spared = refl; read = λ f e r. omega (arith, e, r.0) }

-- in whatever order the two stand, and however often, the reads are not those of the order
pub skew_in_no_order : (zs : List Name) → All OneOf zs → Any (λ (z : Name). z ≡ x) zs → Any (λ (z : Name). z ≡ y) zs → ReadsInOrder first (told_by skew) zs → ⊥
skew_in_no_order zs o i j = rw skew_told_lem (unordered zs o i j)
  where
    swapped : (zs : List Name) → All OneOf zs → All (λ (z : Name). (y ≡ z) ⊎ (x ≡ z)) zs
    swapped zs o = all_map (λ z e. swap e) zs o
      where
        swap : {z : Name} → OneOf z → (y ≡ z) ⊎ (x ≡ z)
        swap (inl e) = inr e
        swap (inr e) = inl e

    unordered : (zs : List Name) → All OneOf zs → Any (λ (z : Name). z ≡ x) zs → Any (λ (z : Name). z ≡ y) zs → ReadsInOrder first skew_told zs → ⊥
    unordered [] o i j r = i
    unordered (z ∷ zs) o i j r = go o.0 i j r
      where
        go : OneOf z → (z ≡ x) ⊎ Any (λ (z : Name). z ≡ x) zs → (z ≡ y) ⊎ Any (λ (z : Name). z ≡ y) zs → ReadsInOrder first skew_told (z ∷ zs) → ⊥
        go (inl e) _ (inl d) r = eqb-false 1 2 refl (ap (λ (z : Name). z.place) (e ∙ d))
        go (inl e) _ (inr j) r = not_after skew_told y x 1 y_unseen zs (swapped zs o.1) j (rw (← e) at r)
        go (inr e) (inl d) _ r = eqb-false 2 1 refl (ap (λ (z : Name). z.place) (e ∙ d))
        go (inr e) (inr i) _ r = not_after skew_told x y 0 x_unseen zs o.1 i (rw (← e) at r)

-- ---- values written back excuse nothing

-- x read cell 1 and wrote it back: the cell counts as read and not as written
pub back_uncovered : CoversReads first (told_by skew_back) x → ⊥
back_uncovered (inl e) = unfold skew_back given computing counting in eqb-false 1 0 refl e
back_uncovered (inr a) = unfold skew_back given computing counting in clash false a.0 refl

-- ---- one that only reads

-- y wrote and held nothing: it is in the order at its seal, before x, though x's seal came first, and needs no condition
pub between_covered : CoversReads first (told_by reader_between) y × (CoversReads first (told_by reader_between) x)
unfolding reader_between given computing counting
between_covered = (inl refl, inr tt)

pub between_order : ByCommit first (told_by reader_between) (x ∷ y ∷ [])
between_order =
    record {
      committed = unfold reader_between given computing counting in (refl, (refl, tt));
      every = λ z d. go z (either z (committed_in 2 both (told_by reader_between) (unfold reader_between given computing counting in refl) z d));
      newest_first = unfold reader_between given computing counting in ((omega arith, tt), (tt, tt));
    }
  where
    go : (z : Name) → OneOf z → Any (λ (w : Name). w ≡ z) (x ∷ y ∷ [])
    go z (inl e) = inl e
    go z (inr e) = inr (inl e)

pub between_reads : ReadsInOrder first (told_by reader_between) (x ∷ y ∷ [])
unfolding reader_between given computing counting
between_reads = (tt, ((refl, (refl, tt)), tt))

-- by the seals it would come after, and read what x left
pub between_by_seals : ReadsInOrder first (told_by reader_between) (y ∷ x ∷ []) → ⊥
unfolding reader_between given computing counting
between_by_seals r = eqb-false 3 1 refl r.0.1.0

-- ---- with holds

-- that a transaction read by holds alone, by a test
abbrev gets : Told → Bool
gets began = false
gets (got c v) = true
gets (put c v f) = false
gets (held c v f) = false
gets sealed = false
gets moved = false
gets ended = false

abbrev got_none : List Item → Bool
got_none [] = true
got_none (i ∷ t) = not (gets i.told) && got_none t

by_test : (t : List Item) → got_none t ≡ true → All (λ (i : Item). (c v : ℕ) → i.told ≡ got c v → ⊥) t
by_test [] e = tt
by_test (i ∷ t) e =
    test (gets i.told) (λ y. absurd (clash false (rw y at e) refl))
    (λ y. ((λ c v g. clash (gets i.told) (ap gets g) y), by_test t (rw y at e)))

pub after_by_holds : ReadsByHolds first (told_by skew_after) x × ReadsByHolds first (told_by skew_after) y
after_by_holds = (
  by_test (transaction x (told_by skew_after)) (unfold skew_after given computing counting in refl),
  by_test (transaction y (told_by skew_after)) (unfold skew_after given computing counting in refl),
)

pub skew_by_reads : ReadsByHolds first (told_by skew) x → ⊥
skew_by_reads = rw skew_told_lem (λ a. unfold counting in a.1.1.1.1.1.0 1 5 refl)

-- where y comes after, both meet the condition, and so the theorem's claim on reads holds of the order
pub after_covered : (z : Name) → Commits first (told_by skew_after) z → CoversReads first (told_by skew_after) z
after_covered z d = holds_cover first (told_by skew_after) z (go z (either z (committed_in 2 both (told_by skew_after) (unfold skew_after given computing counting in refl) z d)))
  where
    go : (z : Name) → OneOf z → ReadsByHolds first (told_by skew_after) z
    go z (inl e) = subst (ReadsByHolds first (told_by skew_after)) e after_by_holds.0
    go z (inr e) = subst (ReadsByHolds first (told_by skew_after)) e after_by_holds.1

pub after_commits : Commits first (told_by skew_after) x × Commits first (told_by skew_after) y
unfolding skew_after given computing counting
after_commits = (refl, refl)

abbrev after_claim : InCommitOrder first (told_by skew_after) (left_by skew_after)
after_claim = unfold skew_after given computing in in_commit_order (given skew_after) refl (as_actions skew_after.calls)

pub after_in_order : ReadsInOrder first (told_by skew_after) after_claim.order
after_in_order = after_claim.reads after_covered

-- where y is rolled back, x alone commits
pub held_commits : Commits first (told_by skew_held) x × (Commits first (told_by skew_held) y → ⊥)
unfolding skew_held given computing counting
held_commits = (refl, λ d. clash false d refl)

-- ---- what the store has

-- sixteen idle records: nobody publishes
idle_none : (τ : Store) → τ.sessions.records ≡ replicate 16 idle → NonePublishing τ
unfolding session_at
idle_none τ e s p = go 16 s (rw e at p)
  where
    go : (n s : ℕ) → (get_or (replicate n idle) s idle).phase ≡ 3 → ⊥
    go zero zero p = eqb-false 0 3 refl p
    go zero (suc s) p = eqb-false 0 3 refl p
    go (suc n) zero p = eqb-false 0 3 refl p
    go (suc n) (suc s) p = go n s p

pub after_none : NonePublishing (left_by skew_after)
after_none = idle_none (left_by skew_after) (unfold skew_after given computing counting in refl)

-- so the order's values are the store's, 1 and 2
pub after_left : (value_after first (told_by skew_after) after_claim.order 0 ≡ 1) × (value_after first (told_by skew_after) after_claim.order 1 ≡ 2)
after_left =
    let l = after_claim.left after_none in
    (sym (l 0 (omega arith)) ∙ (unfold skew_after given computing counting in refl), sym (l 1 (omega arith)) ∙ (unfold skew_after given computing counting in refl))

-- with a session in phase 3 the store may be behind: x has committed 6 to cell 1, and the store has 5
pub half_published_behind : ByCommit first (told_by half_published) (x ∷ [])
    × (value_after first (told_by half_published) (x ∷ []) 1 ≡ 6) × (get_or (left_by half_published).lent.values 1 0 ≡ 5) × (NonePublishing (left_by half_published) → ⊥)
half_published_behind = (
  record {
    committed = unfold half_published given computing counting in (refl, tt);
    every = λ z d. inl (name_by_test 1 0 z (rw d at (committed_in 2 (λ z. cond (committed 2 (transaction z (told_by half_published))) (eqb z.place 1 && eqb z.session 0) true) (told_by half_published) (unfold half_published given computing counting in refl) z d)));
    newest_first = (tt, tt);
  },
  (unfold half_published given computing counting in refl),
  (unfold half_published given computing counting in refl),
  λ n. n 0 (unfold half_published given computing counting in refl),
)

-- ---- the order is by commit place, of all that commit, each once

pub other_way_not : ByCommit first (told_by skew) (x ∷ y ∷ []) → ⊥
other_way_not b = eqb-false 1 2 refl (ap (λ zs. first_place zs) (one_order first (told_by skew) (x ∷ y ∷ []) (y ∷ x ∷ []) b skew_order))
  where
    first_place : List Name → ℕ
    first_place [] = 0
    first_place (z ∷ zs) = z.place

pub one_missing_not : ByCommit first (told_by skew) (x ∷ []) → ⊥
one_missing_not b = go (b.every y (rw skew_told_lem (unfold counting in refl)))
  where
    go : (x ≡ y) ⊎ ⊥ → ⊥
    go (inl e) = eqb-false 1 2 refl (ap (λ (z : Name). z.place) e)
    go (inr i) = i

pub twice_not : ByCommit first (told_by skew) (y ∷ y ∷ x ∷ []) → ⊥
twice_not b = let l : 14 < 14 = unfold counting in (rw skew_told_lem at b.newest_first.0.0) in omega arith
