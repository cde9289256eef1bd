-- The order theorem: `InCommitOrder` of specs/CommitOrder.antt. That the reads are those of the order follows from the claim of demand 3 alone: a transaction that
-- wrote what it read shares no time from snapshot to commit with another writer, so the last commit before its snapshot is the last before its commit.
use Prim.Native.Nat.{ℕ, suc, ◌+◌, ◌≤◌, ◌<◌}
use native.Mathlib.Omega.{arith}
use mathlib.Core.Path.{◌≡◌, refl, sym, ◌∙◌, ap, subst}
use mathlib.Core.Logic.{◌⊎◌, inl, inr}
use mathlib.Core.Bool.{true, false, ◌||◌}
use mathlib.Core.List.{List, [], ◌∷◌, reverse}
use lib.Dec.{eqb}
use lib.ListN.{length, get_or}
use borrow.Author.Tests.{eq-eqb}
use Rattle.records.specs.declared.Answer.{Answer}
use Rattle.model.specs.Buffers.{Store, fresh}
use Rattle.model.specs.CommitOrder.{NewestFirst, ByCommit, value_after, ReadsInOrder, CoversReads, CoveredInOrder, ReadsByHolds, NonePublishing, InCommitOrder}
use Rattle.model.specs.Effects.{number}
use Rattle.model.specs.History.{Action, Event, run, Item, told, history, Name, dirtied, held_in, wrote, value_written, cells_written, reads_before_writing, commit}
use Rattle.model.specs.Isolation.{All, Any, at, Commits, snapshot_of, commit_of, CommitsTo, Last, last_commit, no_commit, Isolated, Ran}
use Rattle.model.specs.Step.{Outcome, outcome, set_up_effect, set_up_answer, set_up}
use Rattle.model.specs.Told.{Told, began, got, put, held, sealed, moved, ended, holds, ReadOf, read_unless}
use Rattle.model.proofs.Commits.{all_both, last_value}
use Rattle.model.proofs.Demand3.{set_up_fresh, ran_is}
use Rattle.model.proofs.Effects.{not_pending}
use Rattle.model.proofs.Invariant.{latest, before_latest, all_map}
use Rattle.model.proofs.Ledger.{Commit, Ledger, Lawful}
use Rattle.model.proofs.Matching.{name_of, Recorded, In}
use Rattle.model.proofs.Runs.{inv_fresh, Ready, ready, ledger_of, inv_run, place_is, match_run}
use Rattle.model.proofs.Tools.{test, clash}
use Rattle.model.proofs.Writers.{isolation}

-- what holds of all holds of each
all_any : (P : Name → Type 0) (x : Name) (ys : List Name) → All P ys → Any (λ (y : Name). y ≡ x) ys → P x
all_any P x [] a i = absurd i
all_any P x (y ∷ ys) a (inl e) = subst P e a.0
all_any P x (y ∷ ys) a (inr i) = all_any P x ys a.1 i

-- ---- a list of transactions against `Last`

module _ (first : List ℕ) (h : List Item) where
  -- the committed transactions before place q
  pub record Upto (q : ℕ) (xs : List Name) : Type 0 where
    pub committed : All (Commits first h) xs
    pub before : All (λ (y : Name). commit_of first h y < q) xs
    pub every : (x : Name) → Commits first h x → commit_of first h x < q → Any (λ (y : Name). y ≡ x) xs
    pub newest_first : NewestFirst first h xs

  older : (q : ℕ) (x : Name) (xs : List Name) → Upto q (x ∷ xs) → Upto (commit_of first h x) xs
  older q x xs u =
      record {
        committed = u.committed.1;
        before = u.newest_first.0;
        every = λ y d l. go y l (u.every y d (omega (arith, l, u.before.0)));
        newest_first = u.newest_first.1;
      }
    where
      go : (y : Name) → commit_of first h y < commit_of first h x → (x ≡ y) ⊎ Any (λ (z : Name). z ≡ y) xs → Any (λ (z : Name). z ≡ y) xs
      go y l (inl e) = absurd (let m : commit_of first h x ≡ commit_of first h y = ap (commit_of first h) e in omega arith)
      go y l (inr i) = i

  -- two places for which the same commits count
  counted : (c p q v : ℕ) → ((y : Name) → CommitsTo first h c p y → CommitsTo first h c q y) → ((y : Name) → CommitsTo first h c q y → CommitsTo first h c p y)
      → Last first h c p v → Last first h c q v
  counted c p q v f g (no_commit none e) = no_commit (λ y k. none y (g y k)) e
  counted c p q v f g (last_commit x k newest e) = last_commit x (f x k) (λ y j. newest y (g y j)) e

  -- as they do where all that counts for the later is before the earlier
  module _ (c p q v : ℕ) (l : p ≤ q) (f : (y : Name) → CommitsTo first h c q y → commit_of first h y < p) where
    wider : (y : Name) → CommitsTo first h c p y → CommitsTo first h c q y
    wider y k = record { commits = k.commits; wrote = k.wrote; before = omega (arith, l, k.before) }

    narrower : (y : Name) → CommitsTo first h c q y → CommitsTo first h c p y
    narrower y k = record { commits = k.commits; wrote = k.wrote; before = f y k }

    sooner : Last first h c q v → Last first h c p v
    sooner = counted c q p v narrower wider

    later : Last first h c p v → Last first h c q v
    later = counted c p q v wider narrower

  -- the value after them is that of the last commit
  after_is : (c v q : ℕ) (xs : List Name) → Upto q xs → Last first h c q v → value_after first h xs c ≡ v
  after_is c v q [] u (no_commit _ e) = e
  after_is c v q [] u (last_commit x k _ _) = absurd (u.every x k.commits k.before)
  after_is c v q (x ∷ xs) u l = test (wrote (at first h x) c) (λ w. rw w (here w l)) (λ w. rw w (after_is c v (commit_of first h x) xs (older q x xs u) (sooner c (commit_of first h x) q v (omega (arith, u.before.0)) (there w) l)))
    where
      here : wrote (at first h x) c ≡ true → Last first h c q v → value_written (at first h x) c ≡ v
      here w (no_commit none _) = absurd (none x (record { commits = u.committed.0; wrote = w; before = u.before.0 }))
      here w (last_commit y k newest e) = go (u.every y k.commits k.before)
        where
          go : (x ≡ y) ⊎ Any (λ (z : Name). z ≡ y) xs → value_written (at first h x) c ≡ v
          go (inl p) = rw p e
          go (inr i) =
              absurd (omega (arith, all_any (λ z. commit_of first h z < commit_of first h x) y xs u.newest_first.0 i, newest x (record { commits = u.committed.0; wrote = w; before = u.before.0 })))

      there : wrote (at first h x) c ≡ false → (y : Name) → CommitsTo first h c q y → commit_of first h y < commit_of first h x
      there w y k = go (u.every y k.commits k.before)
        where
          go : (x ≡ y) ⊎ Any (λ (z : Name). z ≡ y) xs → commit_of first h y < commit_of first h x
          go (inl p) = absurd (clash (wrote (at first h x) c) (rw p k.wrote) w)
          go (inr i) = all_any (λ z. commit_of first h z < commit_of first h x) y xs u.newest_first.0 i

  -- ---- reads

  module _ (I : Isolated first h) where
    -- what a transaction read is the last commit's before its own commit
    read_last : (x : Name) → Commits first h x → CoversReads first h x → All (λ (r : ReadOf). Last first h r.cell (commit_of first h x) r.value) (reads_before_writing (at first h x))
    read_last x d (inl z) =
        let e : commit_of first h x ≡ snapshot_of first h x = unfold commit in rw (eq-eqb (cells_written (length first) (at first h x)) 0 z) in
        rw e (I.reads x d)
    read_last x d (inr ws) =
        all_both (λ r w l. later r.cell (snapshot_of first h x) (commit_of first h x) r.value (I.snapshots x d).1 (λ y k. go y k (I.apart y x r.cell (λ e. same_place y k e) k.commits d k.wrote w)) l)
        (reads_before_writing (at first h x)) ws (I.reads x d)
      where
        same_place : {c : ℕ} (y : Name) → CommitsTo first h c (commit_of first h x) y → y ≡ x → ⊥
        same_place y k e = let m : commit_of first h y ≡ commit_of first h x = ap (commit_of first h) e in omega (arith, k.before, m)

        go : {c : ℕ} (y : Name) → CommitsTo first h c (commit_of first h x) y → (commit_of first h y < snapshot_of first h x) ⊎ (commit_of first h x < snapshot_of first h y)
            → commit_of first h y < snapshot_of first h x
        go y k (inl a) = a
        go y k (inr b) = absurd (omega (arith, b, k.before, (I.snapshots y k.commits).1))

    covered_in_order : (q : ℕ) (xs : List Name) → Upto q xs → CoveredInOrder first h xs
    covered_in_order q [] u = tt
    covered_in_order q (x ∷ xs) u =
        let o = older q x xs u in
        let d = u.committed.0 in (
          λ k. all_map (λ r l. sym (after_is r.cell r.value (commit_of first h x) xs o l)) (reads_before_writing (at first h x)) (read_last x d k),
          covered_in_order (commit_of first h x) xs o,
        )

  all_in_order : ((x : Name) → Commits first h x → CoversReads first h x) → (xs : List Name) → All (Commits first h) xs → CoveredInOrder first h xs → ReadsInOrder first h xs
  all_in_order f [] a k = tt
  all_in_order f (x ∷ xs) a k = (k.0 (f x a.0), all_in_order f xs a.1 k.1)

-- ---- holds cover what they read

module _ (t : List Item) where
  told_more : (w : Told) → ((c v : ℕ) → w ≡ got c v → ⊥) → (rs : List ReadOf) → All (λ (r : ReadOf). held_in t r.cell ≡ true) rs
      → All (λ (r : ReadOf). (holds w r.cell || held_in t r.cell) ≡ true) (read_unless (dirtied t) w rs)
  told_more began n rs a = a
  told_more (got c v) n rs a = absurd (n c v refl)
  told_more (put c v f) n rs a = a
  told_more (held c v f) n rs a =
      let rest = all_map {Q = λ (r : ReadOf). (eqb c r.cell || held_in t r.cell) ≡ true} (λ r e. test (eqb c r.cell) (λ y. rw y) (λ y. rw y e)) rs a in
      test (dirtied t c) (λ y. rw y rest) (λ y. rw y (rw (eq-eqb c c refl), rest))
  told_more sealed n rs a = a
  told_more moved n rs a = a
  told_more ended n rs a = a

by_holds : (t : List Item) → All (λ (i : Item). (c v : ℕ) → i.told ≡ got c v → ⊥) t → All (λ (r : ReadOf). held_in t r.cell ≡ true) (reads_before_writing t)
unfolding held_in reads_before_writing
by_holds [] a = tt
by_holds (i ∷ t) a = told_more t i.told a.0 (reads_before_writing t) (by_holds t a.1)

pub holds_cover : (first : List ℕ) (h : List Item) (x : Name) → ReadsByHolds first h x → CoversReads first h x
unfolding wrote
holds_cover first h x a = inr (all_map (λ r e. rw e) (reads_before_writing (at first h x)) (by_holds (at first h x) a))

-- ---- there is one such list

module _ (first : List ℕ) (h : List Item) where
  same_list : (q : ℕ) (xs ys : List Name) → Upto first h q xs → Upto first h q ys → xs ≡ ys
  same_list q [] [] a b = refl
  same_list q [] (y ∷ ys) a b = absurd (a.every y b.committed.0 b.before.0)
  same_list q (x ∷ xs) [] a b = absurd (b.every x a.committed.0 a.before.0)
  same_list q (x ∷ xs) (y ∷ ys) a b =
      go (same_list (commit_of first h x) xs ys (older first h q x xs a)) (a.every y b.committed.0 b.before.0) (b.every x a.committed.0 a.before.0)
    where
      tails : (Upto first h (commit_of first h x) ys → xs ≡ ys) → x ≡ y → x ∷ xs ≡ y ∷ ys
      tails f e = rw (e, f (rw e (older first h q y ys b)))

      go : (Upto first h (commit_of first h x) ys → xs ≡ ys) → (x ≡ y) ⊎ Any (λ (z : Name). z ≡ y) xs → (y ≡ x) ⊎ Any (λ (z : Name). z ≡ x) ys → x ∷ xs ≡ y ∷ ys
      go f (inl e) j = tails f e
      go f (inr i) (inl e) = tails f (sym e)
      go f (inr i) (inr j) =
          absurd (omega (arith, all_any (λ z. commit_of first h z < commit_of first h x) y xs a.newest_first.0 i, all_any (λ z. commit_of first h z < commit_of first h y) x ys b.newest_first.0 j))

  bounded : (q : ℕ) (x : Name) (xs : List Name) → ByCommit first h (x ∷ xs) → commit_of first h x < q → Upto first h q (x ∷ xs)
  bounded q x xs a l =
      record { committed = a.committed; before = (l, all_map (λ y m. omega (arith, l, m)) xs a.newest_first.0); every = λ y d _. a.every y d; newest_first = a.newest_first }

  pub one_order : (xs ys : List Name) → ByCommit first h xs → ByCommit first h ys → xs ≡ ys
  one_order [] [] a b = refl
  one_order [] (y ∷ ys) a b = absurd (a.every y b.committed.0)
  one_order (x ∷ xs) [] a b = absurd (b.every x a.committed.0)
  one_order (x ∷ xs) (y ∷ ys) a b =
      let q = suc (commit_of first h x + commit_of first h y) in
      same_list q (x ∷ xs) (y ∷ ys) (bounded q x xs a (omega arith)) (bounded q y ys b (omega arith))

-- ---- the runs

-- the transactions of commits
abbrev names : List Commit → List Name
names [] = []
names (k ∷ ks) = name_of k ∷ names ks

named : {P R : Commit → Type 0} (Q : Name → Type 0) → ((k : Commit) → P k → R k → Q (name_of k)) → (ks : List Commit) → All P ks → All R ks → All Q (names ks)
named Q f [] a b = tt
named Q f (k ∷ ks) a b = (f k a.0 b.0, named Q f ks a.1 b.1)

in_names : (x : Name) (ks : List Commit) → In x ks → Any (λ (y : Name). y ≡ x) (names ks)
in_names x [] i = i
in_names x (k ∷ ks) (inl e) = inl e
in_names x (k ∷ ks) (inr i) = inr (in_names x ks i)

module _ {φ : Store} {h₀ : List Item} {T₀ : Ledger} (R : Ready φ h₀ T₀) (ks : List Action) where
  abbrev first : List ℕ
  first = φ.lent.values

  abbrev h : List Item
  h = history h₀ φ ks

  abbrev commits : List Commit
  commits = (ledger_of R ks).commits

  newest : (js : List Commit) → Lawful first js → All (Recorded (length first) h) js → NewestFirst first h (names js)
  newest [] l t = tt
  newest (j ∷ js) l t = (
    named (λ y. commit_of first h y < commit_of first h (name_of j)) (λ k a b. omega (arith, a, b.commit, t.0.commit)) js l.0.newest t.1,
    newest js l.1 t.1,
  )

  by_commit_lem : ByCommit first h (names commits)
  by_commit_lem =
      let M = match_run R ks in
      record {
        committed = named (Commits first h) (λ k a _. a.committed) commits M.recorded M.recorded;
        every = λ x d. in_names x commits (M.every x d);
        newest_first = newest commits (inv_run R ks).lawful M.recorded;
      }

  all_upto : Upto first h (suc (length ks)) (names commits)
  all_upto =
      let B = by_commit_lem in
      record {
        committed = B.committed;
        before = named (λ y. commit_of first h y < suc (length ks)) (λ k a b. omega (arith, a, b.commit, place_is R ks)) commits (inv_run R ks).old (match_run R ks).recorded;
        every = λ x d _. B.every x d;
        newest_first = B.newest_first;
      }

  -- once nobody publishes, the store has the last commits' values
  left_last : NonePublishing (run φ ks) → (c : ℕ) → c < length first → Last first h c (suc (length ks)) (get_or (run φ ks).lent.values c 0)
  left_last n c lc =
      let I = inv_run R ks in
      let M = match_run R ks in
      let e : get_or (run φ ks).lent.values c 0 ≡ latest first commits c = (I.valued c lc).settled (λ s. not_pending (run φ ks) s c (n s)) in
      rw (e, ← (before_latest first (ledger_of R ks).place c commits I.old), place_is R ks)
      (last_value first h c (suc (length ks)) commits I.lawful M.recorded (λ r x. M.every r x.commits))

  pub in_commit_order_from : InCommitOrder first h (run φ ks)
  in_commit_order_from =
      let k = covered_in_order first h (isolation R ks) (suc (length ks)) (names commits) all_upto in
      record {
        order = names commits;
        by_commit = by_commit_lem;
        covered = k;
        reads = λ f. all_in_order first h f (names commits) by_commit_lem.committed k;
        left = λ n c lc. sym (after_is first h c (get_or (run φ ks).lent.values c 0) (suc (length ks)) (names commits) all_upto (left_last n c lc));
      }

-- any store that set-up answers 100, and any list of actions from what it leaves
pub in_commit_order : (σ : Store) → number (set_up_answer σ) ≡ 100 → (actions : List Action) → let φ = set_up σ in let ks = reverse actions in
    InCommitOrder φ.lent.values (history [] φ ks) (run φ ks)
in_commit_order σ g actions =
    subst (λ (φ : Store). InCommitOrder φ.lent.values (history [] φ (reverse actions)) (run φ (reverse actions))) (sym (set_up_fresh σ g))
    (in_commit_order_from (ready (fresh σ.limits σ.lent) (inv_fresh σ.limits σ.lent)) (reverse actions))

-- code: a set-up that kept its contract and answered 100 left σ, and the calls kept theirs
pub in_commit_order_of_code : (φ σ : Store) (a : Answer) → outcome a σ ≡ set_up_effect φ → number a ≡ 100
    → (actions : List Action) (h : List Event) (τ : Store) → Ran σ (reverse actions) h τ → InCommitOrder σ.lent.values (told [] h) τ
unfolding set_up_effect
in_commit_order_of_code φ σ a e n actions h τ r =
    let f = ap (λ (o : Outcome). o.answer) e in
    let g : σ ≡ set_up φ = ap (λ (o : Outcome). o.store) e in
    let i = ran_is σ r in
    rw (i.0, i.1) (subst (λ (σ : Store). InCommitOrder σ.lent.values (history [] σ (reverse actions)) (run σ (reverse actions))) (sym g) (in_commit_order φ (ap number (sym f) ∙ n) actions))
