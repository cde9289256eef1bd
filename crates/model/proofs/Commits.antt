-- Lawful commits that are those of the list's transactions: the transactions are isolated.
use Prim.Native.Nat.{ℕ, ◌≤◌, ◌<◌}
use native.Mathlib.Omega.{arith}
use mathlib.Core.Path.{◌≡◌, refl, sym, ◌∙◌, ap, subst}
use mathlib.Core.Logic.{◌⊎◌, inl, inr}
use mathlib.Core.Bool.{Bool, true, false, ◌&&◌}
use mathlib.Core.List.{List, [], ◌∷◌}
use lib.Dec.{ltb}
use lib.ListN.{length}
use borrow.Author.Tests.{ltb-true, lt-ltb}
use Rattle.model.specs.History.{Item, Name, wrote}
use Rattle.model.specs.Isolation.{All, at, Commits, snapshot_of, commit_of, CommitsTo, Last, last_commit, no_commit, Isolated}
use Rattle.model.specs.Told.{ReadOf}
use Rattle.model.proofs.Agreement.{snapshot_own, commit_own}
use Rattle.model.proofs.Invariant.{before_later, all_map}
use Rattle.model.proofs.Ledger.{Commit, value_before, Fair, Lawful}
use Rattle.model.proofs.Matching.{name_of, Recorded, In, Stands}
use Rattle.model.proofs.Tools.{split, clash, both_l, both_r}
use Rattle.model.proofs.Words.{observed, observed_both}

pub pick : {P Q : Commit → Type 0} (x : Name) (ks : List Commit) → In x ks → All P ks → All Q ks → (k : Commit) × (name_of k ≡ x) × P k × Q k
pick p [] i a b = absurd i
pick p (k ∷ ks) (inl e) a b = (k, e, a.0, b.0)
pick p (k ∷ ks) (inr i) a b = pick p ks i a.1 b.1

pub all_both {ℓ} : {A : Type ℓ} {P Q R : A → Type 0} (f : (x : A) → P x → Q x → R x) (xs : List A) → All P xs → All Q xs → All R xs
all_both f [] a b = tt
all_both f (x ∷ xs) a b = (f x a.0 b.0, all_both f xs a.1 b.1)

module _ (start : List ℕ) where
  lawful_order : (ks : List Commit) → Lawful start ks → All (λ (k : Commit). (0 < k.snap) × (k.snap ≤ k.place)) ks
  lawful_order [] l = tt
  lawful_order (k ∷ ks) l = (l.0.sealed, lawful_order ks l.1)

  -- the values read, against all commits
  lawful_reads : (ks : List Commit) → Lawful start ks → All (λ (k : Commit). All (λ (r : ReadOf). r.value ≡ value_before k.snap start ks r.cell) k.reads) ks
  lawful_reads [] l = tt
  lawful_reads (k ∷ ks) l = (
    all_map (λ r e. e ∙ sym (before_later start k.snap r.cell k ks l.0.sealed.1)) k.reads l.0.reads,
    all_both (λ j a b. all_map (λ r e. e ∙ sym (before_later start j.snap r.cell k ks (a))) j.reads b) ks
        (all_both (λ j a b. let x : j.snap ≤ k.place = omega (arith, a.1) in x) ks (lawful_order ks l.1) l.0.newest) (lawful_reads ks l.1),
  )

  module _ (h : List Item) where
    abbrev n : ℕ
    n = length start

    -- the last commit before a place, in the list as among the commits
    pub last_value : (c q : ℕ) (ks : List Commit) → Lawful start ks → All (Recorded (length start) h) ks → ((r : Name) → CommitsTo start h c q r → In r ks) → Last start h c q (value_before q start ks c)
    unfolding value_before
    last_value c q [] l t a = no_commit a refl
    last_value c q (k ∷ ks) l t a =
        split (Last start h c q) (ltb k.place q && k.wrote c)
        (λ y.
        last_commit (name_of k)
        (record {
          commits = t.0.committed;
          wrote = ap (λ (f : ℕ → Bool). f c) t.0.wrote ∙ both_r (ltb k.place q) (k.wrote c) y;
          before = rw t.0.commit (ltb-true k.place q (both_l (ltb k.place q) (k.wrote c) y));
        })
        (λ r x. newest r (a r x))
        (ap (λ (f : ℕ → ℕ). f c) t.0.value))
        (λ y. last_value c q ks l.1 t.1 (λ r x. older r x (a r x) y))
      where
        newest : (r : Name) → In r (k ∷ ks) → commit_of start h r ≤ commit_of start h (name_of k)
        newest r (inl e) = rw e (omega arith)
        newest r (inr i) =
            let j = pick r ks i t.1 l.0.newest in
            rw (← j.1) (omega (arith, j.2.commit, t.0.commit, j.3))

        older : (r : Name) → CommitsTo start h c q r → In r (k ∷ ks) → (ltb k.place q && k.wrote c) ≡ false → In r ks
        older r x (inl e) y =
            let w : k.wrote c ≡ true = sym (ap (λ (f : ℕ → Bool). f c) t.0.wrote) ∙ (rw (← e) at x.wrote) in
            absurd (clash (ltb k.place q && k.wrote c)
            (rw (lt-ltb k.place q (rw (← e, t.0.commit) at x.before), w)) y)
        older r x (inr i) y = i

    -- a newer commit, of the transaction p, and an older, of q
    two : (p q : Name) (c : ℕ) (k : Commit) (ks : List Commit) → Fair start k ks → Recorded (length start) h k → All (Recorded (length start) h) ks → name_of k ≡ p → In q ks
        → wrote (at start h p) c ≡ true → wrote (at start h q) c ≡ true → commit_of start h q < snapshot_of start h p
    two p q c k ks l t u e i a b =
        let j = pick q ks i u l.apart in
        subst (λ (x : Name). commit_of start h q < snapshot_of start h x) e
        (subst (λ (x : Name). commit_of start h x < snapshot_of start h (name_of k)) j.1
        (rw (j.2.commit, t.snapshot)
        (j.3 c (sym (ap (λ (f : ℕ → Bool). f c) j.2.wrote) ∙ rw j.1 b) (sym (ap (λ (f : ℕ → Bool). f c) t.wrote) ∙ rw e a))))

    pairs : (p q : Name) (c : ℕ) → (p ≡ q → ⊥) → (ks : List Commit) → Lawful start ks → All (Recorded (length start) h) ks → In p ks → In q ks
        → wrote (at start h p) c ≡ true → wrote (at start h q) c ≡ true → (commit_of start h p < snapshot_of start h q) ⊎ (commit_of start h q < snapshot_of start h p)
    pairs p q c n [] l t i j a b = absurd i
    pairs p q c n (k ∷ ks) l t (inl e) (inl f) a b = absurd (n (sym e ∙ f))
    pairs p q c n (k ∷ ks) l t (inl e) (inr j) a b = inr (two p q c k ks l.0 t.0 t.1 e j a b)
    pairs p q c n (k ∷ ks) l t (inr i) (inl f) a b = inl (two q p c k ks l.0 t.0 t.1 f i b a)
    pairs p q c n (k ∷ ks) l t (inr i) (inr j) a b = pairs p q c n ks l.1 t.1 i j a b

    pub isolated : (ks : List Commit) → Lawful start ks → All (Recorded (length start) h) ks → ((x : Name) → Commits start h x → In x ks) → ((x : Name) → All (Stands x) (at start h x)) → Isolated start h
    isolated ks l t every stands =
        record {
          snapshots = λ p d.
              let x = pick p ks (every p d) t (lawful_order ks l) in
              let o : (0 < snapshot_of start h p) × (snapshot_of start h p ≤ commit_of start h p) =
              subst (λ (p : Name). (0 < snapshot_of start h p) × (snapshot_of start h p ≤ commit_of start h p)) x.1 (rw (x.2.snapshot, x.2.commit) x.3) in
              let w = snapshot_own start h p (stands p) o.0 in
              (w.1, o.1, w.0);
          commits = λ p d. commit_own start h p (stands p) d;
          reads = λ p d. (observed_both (λ r. Last start h r.cell (snapshot_of start h p) r.value) (at start h p) (observes p d)).0;
          finds = λ p d. (observed_both (λ r. Last start h r.cell (snapshot_of start h p) r.value) (at start h p) (observes p d)).1;
          apart = λ p q c n dp dq a b. pairs p q c n ks l t (every p dp) (every q dq) a b;
        }
      where
        observes : (p : Name) → Commits start h p → All (λ (r : ReadOf). Last start h r.cell (snapshot_of start h p) r.value) (observed (at start h p))
        observes p d =
            let x = pick p ks (every p d) t (lawful_reads ks l) in
            subst (λ (p : Name). All (λ (r : ReadOf). Last start h r.cell (snapshot_of start h p) r.value) (observed (at start h p))) x.1
            (rw (x.2.snapshot, x.2.reads)
            (all_map (λ r e. rw e (last_value r.cell x.0.snap ks l t (λ r y. every r y.commits))) x.0.reads x.3))
