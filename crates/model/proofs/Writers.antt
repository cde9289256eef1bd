-- The writer locks: with its commit call, and not before, a transaction holds all the cells it wrote; one that is not committed does not.
use Prim.Native.Nat.{ℕ, zero, suc, ◌≤◌, ◌<◌}
use native.Mathlib.Omega.{arith}
use mathlib.Core.Path.{◌≡◌, refl, sym, ◌∙◌, ap, subst}
use mathlib.Core.Bool.{Bool, true, false, cond, not, ◌&&◌, ◌||◌}
use mathlib.Core.List.{List, [], ◌∷◌}
use lib.Dec.{ltb, eqb}
use lib.ListN.{length, get_or-eq_default}
use borrow.Author.Tests.{ltb-true, ltb-false, le-leb, lt-leb}
use Rattle.model.specs.Buffers.{Locks, Store, lock_at}
use Rattle.model.specs.History.{Action, one_call, many_reads, load_caps, actor, action_tells, Event, tells_of, event_of, Item, add, run, history, Name, transaction, is_open, held_in, changed_in, wrote, snapshot, commit, committed}
use Rattle.model.specs.Isolation.{All, Isolated, Holds, firsts, HoldsAtCommit}
use Rattle.model.specs.Effects.{number, record_of}
use Rattle.model.specs.Step.{session_of}
use Rattle.model.specs.Told.{Told, sealed, ended, ending, reads_tell, writes, holds, seals, begins}
use Rattle.model.proofs.Advancing.{late, role_late}
use Rattle.model.proofs.Commits.{pick, all_both, isolated}
use Rattle.model.proofs.Effects.{running_role}
use Rattle.model.proofs.Invariant.{role_in, role_of, role, Link, Just, Inv}
use Rattle.model.proofs.Laws.{Long}
use Rattle.model.proofs.Ledger.{Txn, closed, Commit, Ledger, tick, calm, as_commit, amend, starts, hear, hears, observe, ledger}
use Rattle.model.proofs.ManyReads.{reads_by_read, amend_keeps, hears_keeps}
use Rattle.model.proofs.Matching.{Next, stays, grows, starts_here, next, Recorded}
use Rattle.model.proofs.Roles.{owns, flip}
use Rattle.model.proofs.Runs.{history_step, Ready, ledger_of, inv_run, place_is, match_run}
use Rattle.model.proofs.Telling.{tells_any}
use Rattle.model.proofs.Tools.{same, split, test, which, clash, upd}
use Rattle.model.proofs.View.{look, written}
use Rattle.model.proofs.Words.{Early}

-- ---- the writer locks

beyond : (n c : ℕ) (L : Locks) → Long n L → n ≤ c → (lock_at L c).exclusive ≡ 0
unfolding lock_at
beyond n c L w h = get_or-eq_default L.exclusives 0 (omega (arith, w.exclusives))

-- an open transaction that is not committed does not hold everything
unheld : {start : List ℕ} {σ : Store} {T : Ledger} → Inv start σ T → (s : ℕ) → (T.mine s).live ≡ true → (T.mine s).done ≡ false → (w : ℕ → Bool)
    → (0 < (T.mine s).snap → (c : ℕ) → (T.mine s).wrote c ≡ true → w c ≡ true) → (c : ℕ) → w c ≡ true → ((c : ℕ) → w c ≡ true → Holds σ s c) → ⊥
unheld {start} {σ} {T} I s l d w sub c wc al =
    test (ltb c (length start)) (λ y. go (ltb-true c (length start) y) (record_of σ s).phase refl (I.link s))
    (λ y. omega (arith, (al c wc).1, beyond (length start) c σ.lent.locks I.shape.long (ltb-false c (length start) y)))
  where
    go : c < length start → (ph : ℕ) → (record_of σ s).phase ≡ ph → Link start T.commits T.place (record_of σ s).next (look σ s) (T.mine s) ph → ⊥
    go lc zero e x = clash (T.mine s).live l x
    go lc (suc zero) e x =
        let o = (I.locked c lc).early s (al c wc).0 (al c wc).1 in
        which (look σ s c) (λ y. clash (owns (role σ c s)) o (unfold role role_of in rw y)) (λ n y. clash (owns (role σ c s)) o (ap owns (running_role σ s c n e y)))
    go lc (suc (suc zero)) e x =
        let f = x.left.0 in
        let h = al f (sub x.sealed.0 f x.left.1) in
        let o = (I.locked f x.left.3).early s h.0 h.1 in
        clash (owns (role σ f s)) o
        (ap owns (role_late σ s f 0 e) ∙ unfold late role_in written in rw (sym (x.wrote f) ∙ x.left.1, le-leb (record_of σ s).next f x.left.2))
    go lc (suc (suc (suc zero))) e x = clash (T.mine s).done x.done d
    go lc (suc (suc (suc (suc zero)))) e x = clash (T.mine s).done x.done d
    go lc (suc (suc (suc (suc (suc k))))) e x = x

-- ---- commits only come on

pub data Grown (T U : Ledger) : Type 0 where
  kept : U.commits ≡ T.commits → Grown T U
  grew : (k : Commit) → U.commits ≡ k ∷ T.commits → k.place ≡ T.place → U.new ≡ true → Grown T U

or_true : (b : Bool) → (b || true) ≡ true
or_true true = refl
or_true false = refl

amend_grows : (s : ℕ) (f : Txn → Txn) (T : Ledger) → Grown T (amend s f T)
unfolding amend
amend_grows s f T =
    split (Grown T) (T.mine s).live (λ _. go ((f (T.mine s)).done && not (T.mine s).done)) (λ _. kept refl)
  where
    go : (d : Bool) → Grown T (record { place = T.place; mine = upd T.mine s (f (T.mine s)); commits = cond d (as_commit s T.place (f (T.mine s)) ∷ T.commits) T.commits; new = T.new || d })
    go true = grew (as_commit s T.place (f (T.mine s))) refl refl (or_true T.new)
    go false = kept refl

hear_grows : (n s : ℕ) (w : Told) (T : Ledger) → Grown T (hear n s w T)
hear_grows n s w T = split (Grown T) (begins w) (λ _. unfold starts in kept refl) (λ _. amend_grows s _ T)

on_tick : {T U : Ledger} → Grown (calm T) U → Grown T (tick U)
on_tick (kept e) = kept e
on_tick (grew k e p w) = grew k e p w

observe_grows : (n : ℕ) (e : Event) (T : Ledger) → Grown T (observe n e T)
unfolding observe
observe_grows n e T = go e.action
  where
    P : ℕ → List Told → Type 0
    P s ws = Grown T (tick (hears n s ws (calm T)))

    alone : (s : ℕ) (w : Told) → P s (w ∷ [])
    alone s w = on_tick (hear_grows n s w (calm T))

    closes : {U W : Ledger} → Grown (calm T) U → (W.commits ≡ U.commits) × (W.new ≡ U.new) → Grown T (tick W)
    closes (kept e) f = kept (f.0 ∙ e)
    closes (grew k e p w) f = grew k (f.0 ∙ e) p (f.1 ∙ w)

    go : (k : Action) → P (actor k) (action_tells k e.answer e.values e.found)
    go (one_call k) =
        let s = session_of k in
        let a = e.answer in
        tells_any (P s) a (unfold ending in split (P s) (eqb (number a) 6 || eqb (number a) 105) (λ _. alone s ended) (λ _. kept refl)) (λ w _ _. alone s w)
        (λ _. closes (hear_grows n s sealed (calm T)) (amend_keeps s closed (hear n s sealed (calm T)) refl)) k e.found
    go (many_reads s cs words) = kept (hears_keeps n s (reads_tell cs e.values e.answer) (calm T) (reads_by_read cs e.values e.answer)).0
    go (load_caps caps) = kept refl

-- ---- what more told does to a transaction

-- what is open now was open; what is committed now and was not was open; sealed it stays sealed, and what was written at its seal stays written
pub record Later (n : ℕ) (t u : List Item) : Type 0 where
  pub open' : is_open u ≡ true → is_open t ≡ true
  pub done : committed n t ≡ false → committed n u ≡ true → is_open t ≡ true
  pub sealed : 0 < snapshot t → 0 < snapshot u
  pub wrote : 0 < snapshot t → (c : ℕ) → wrote t c ≡ true → wrote u c ≡ true

later_same : (n : ℕ) (t : List Item) → Later n t t
later_same n t = record { open' = λ o. o; done = λ a b. absurd (clash (committed n t) b a); sealed = λ l. l; wrote = λ l c w. w }

later_more : (n : ℕ) (i : Item) (t : List Item) → 0 < i.place → Early (i ∷ t) → is_open t ≡ true → Later n t (i ∷ t)
unfolding held_in changed_in wrote snapshot
later_more n i t p e o =
    record {
      open' = λ _. o;
      done = λ _ _. o;
      sealed = λ l. split (λ (z : ℕ). 0 < z) (seals i.told) (λ _. p) (λ _. l);
      wrote = λ l c w. test (writes i.told c) (λ y. absurd (let z = e.0 c y in omega arith)) (λ y. rw y (test (holds i.told c) (λ z. rw z) (λ z. rw z w)));
    }

later_item : (n : ℕ) (x : Name) (i : Item) (h : List Item) → (x.place ≡ i.place → ⊥) → 0 < i.place → Early (transaction x (i ∷ h))
    → Early (transaction x h) × Later n (transaction x h) (transaction x (i ∷ h))
later_item n x i h d p a = go (next x i h)
  where
    go : Next x i h → Early (transaction x h) × Later n (transaction x h) (transaction x (i ∷ h))
    go (stays e _) = (subst Early e a, subst (Later n (transaction x h)) (sym e) (later_same n (transaction x h)))
    go (grows _ o e) = let b = subst Early e a in (b.1, subst (Later n (transaction x h)) (sym e) (later_more n i (transaction x h) p b o))
    go (starts_here _ e _ _ _) = absurd (d e)

later_on : {n : ℕ} {t u v : List Item} → Later n t u → Later n u v → Later n t v
later_on {n} {t} {u} {v} a b =
    record {
      open' = λ o. a.open' (b.open' o);
      done = λ x y. test (committed n u) (λ z. a.done x z) (λ z. a.open' (b.done z y));
      sealed = λ l. b.sealed (a.sealed l);
      wrote = λ l c w. b.wrote (a.sealed l) c (a.wrote l c w);
    }

later_add : (n : ℕ) (x : Name) (q s : ℕ) (ws : List Told) (h : List Item) → (x.place ≡ q → ⊥) → 0 < q → Early (transaction x (add q s ws h))
    → Early (transaction x h) × Later n (transaction x h) (transaction x (add q s ws h))
later_add n x q s [] h d p e = (e, later_same n (transaction x h))
later_add n x q s (w ∷ ws) h d p e =
    let a = later_item n x (record { place = q; session = s; told = w }) (add q s ws h) d p e in
    let b = later_add n x q s ws h d p a.0 in
    (b.0, later_on b.1 a.1)

-- ---- the runs

firsts_all : (m : ℕ) (k : Action) (ks : List Action) → m ≡ suc (length ks) → firsts m (k ∷ ks) ≡ k ∷ ks
unfolding firsts
firsts_all m k ks e = rw (le-leb (suc (length ks)) m (omega arith))

firsts_fewer : (m : ℕ) (k : Action) (ks : List Action) → m ≤ length ks → firsts m (k ∷ ks) ≡ firsts m ks
unfolding firsts
firsts_fewer m k ks h = rw (lt-leb (suc (length ks)) m (omega arith))

module _ {φ : Store} {h₀ : List Item} {T₀ : Ledger} (R : Ready φ h₀ T₀) where
  abbrev n : ℕ
  n = length φ.lent.values

  abbrev tx : List Action → Name → List Item
  tx ks x = transaction x (history h₀ φ ks)

  -- the older commits stay
  older : (P : Commit → Type 0) (k : Action) (ks : List Action) → All P (ledger_of R (k ∷ ks)).commits → All P (ledger_of R ks).commits
  unfolding ledger
  older P k ks a = go (observe_grows n (event_of k (run φ ks)) (ledger_of R ks))
    where
      go : Grown (ledger_of R ks) (observe n (event_of k (run φ ks)) (ledger_of R ks)) → All P (ledger_of R ks).commits
      go (kept e) = rw e at a
      go (grew j e _ _) = (rw e at a).1

  -- with its commit a transaction holds what it wrote
  abbrev Held : List Action → Commit → Type 0
  Held ks k = (c : ℕ) → k.wrote c ≡ true → Holds (run φ (firsts k.place ks)) k.who c

  lift : (x : Action) (ks : List Action) → All (Held ks) (ledger_of R ks).commits → All (Held (x ∷ ks)) (ledger_of R ks).commits
  lift x ks a = all_both (λ k l q c w. rw (firsts_fewer k.place x ks (omega (arith, l, place_is R ks))) (q c w)) (ledger_of R ks).commits (inv_run R ks).old a

  grow : (x : Action) (ks : List Action) → All (Held ks) (ledger_of R ks).commits → (U : Ledger) → Grown (ledger_of R ks) U
      → Just (run φ (x ∷ ks)) U.new U.commits → All (Held (x ∷ ks)) U.commits
  grow x ks a U (kept e) j = rw e (lift x ks a)
  grow x ks a U (grew k e l w) j =
      let i : Just (run φ (x ∷ ks)) U.new (k ∷ (ledger_of R ks).commits) = subst (Just (run φ (x ∷ ks)) U.new) e j in
      subst (All (Held (x ∷ ks))) (sym e)
      (λ c v. rw (firsts_all k.place x ks (l ∙ place_is R ks)) (i w c v), lift x ks a)

  held : (ks : List Action) → All (Held ks) (ledger_of R ks).commits
  unfolding ledger
  held [] = rw R.commits tt
  held (x ∷ ks) = grow x ks (held ks) (ledger_of R (x ∷ ks)) (observe_grows n (event_of x (run φ ks)) (ledger_of R ks)) (inv_run R (x ∷ ks)).just

  -- a committed transaction stays committed, at its place
  frozen : (k : Action) (ks : List Action) (x : Name) → committed n (tx ks x) ≡ true → (committed n (tx (k ∷ ks) x) ≡ true) × (commit n (tx (k ∷ ks) x) ≡ commit n (tx ks x))
  frozen k ks x d =
      let M = match_run R ks in
      let y = pick x (ledger_of R ks).commits (M.every x d) M.recorded (older (Recorded n (history h₀ φ (k ∷ ks))) k ks (match_run R (k ∷ ks)).recorded) in
      subst (λ (x : Name). (committed n (tx (k ∷ ks) x) ≡ true) × (commit n (tx (k ∷ ks) x) ≡ commit n (tx ks x))) y.1 (y.3.committed, y.3.commit ∙ sym y.2.commit)

  -- at an earlier moment: open, not committed, and it had written no more
  pub record Opening (t u : List Item) : Type 0 where
    pub open' : is_open t ≡ true
    pub not_done : committed (length φ.lent.values) t ≡ false
    pub sealed : 0 < snapshot t → 0 < snapshot u
    pub wrote : 0 < snapshot t → (c : ℕ) → wrote t c ≡ true → wrote u c ≡ true

  past : (k : Action) (ks : List Action) (x : Name) → x.place ≤ length ks → Later n (tx ks x) (tx (k ∷ ks) x)
  past k ks x l =
      let e = event_of k (run φ ks) in
      subst (λ (h : List Item). Later n (tx ks x) (transaction x h)) (sym (history_step h₀ φ k ks))
      (later_add n x (suc (length ks)) (actor e.action) (tells_of e) (history h₀ φ ks) (λ e. omega arith) (omega arith)
      (subst (λ (h : List Item). Early (transaction x h)) (history_step h₀ φ k ks) ((match_run R (k ∷ ks)).early x))).1

  after_one : {t u v : List Item} → Later n u v → Opening t u → Opening t v
  after_one p o = record { open' = o.open'; not_done = o.not_done; sealed = λ l. p.sealed (o.sealed l); wrote = λ l c h. p.wrote (o.sealed l) c (o.wrote l c h) }

  still_open : (ks : List Action) (x : Name) → is_open (tx ks x) ≡ true → committed n (tx ks x) ≡ false → (m : ℕ) → x.place ≤ m → m ≤ length ks → Opening (tx (firsts m ks) x) (tx ks x)
  still_open [] x l d m a b = unfold firsts in record { open' = l; not_done = d; sealed = λ l. l; wrote = λ l c h. h }
  still_open (k ∷ ks) x l d m a b =
      same m (suc (length ks))
      (λ e. rw (firsts_all m k ks e) (record { open' = l; not_done = d; sealed = λ l. l; wrote = λ l c h. h }))
      (λ ne.
      let p = past k ks x (omega arith) in
      let o = still_open ks x (p.open' l) (flip (committed n (tx ks x)) (λ y. clash (committed n (tx (k ∷ ks) x)) (frozen k ks x y).0 d)) m a (omega arith) in
      rw (firsts_fewer m k ks (omega arith)) (after_one p o))

  commit_le : (ks : List Action) (x : Name) → committed n (tx ks x) ≡ true → commit n (tx ks x) ≤ length ks
  commit_le ks x d =
      let M = match_run R ks in
      let y = pick x (ledger_of R ks).commits (M.every x d) M.recorded (inv_run R ks).old in
      subst (λ (x : Name). commit n (tx ks x) ≤ length ks) y.1 (omega (arith, y.2.commit, y.3, place_is R ks))

  not_yet : (ks : List Action) (x : Name) → committed n (tx ks x) ≡ true → (m : ℕ) → x.place ≤ m → m < commit n (tx ks x) → Opening (tx (firsts m ks) x) (tx ks x)
  not_yet [] x d m a b = absurd (omega (arith, commit_le [] x d, b))
  not_yet (k ∷ ks) x d m a b =
      let c = commit_le (k ∷ ks) x d in
      let p = past k ks x (omega (arith, a, b, c)) in
      rw (firsts_fewer m k ks (omega (arith, b, c)))
      (test (committed n (tx ks x))
      (λ y. let o = not_yet ks x y m a (omega (arith, b, (frozen k ks x y).1)) in after_one p o)
      (λ y. let o = still_open ks x (p.done y d) y m a (omega (arith, b, c)) in after_one p o))

  pub writing : (ks : List Action) → HoldsAtCommit h₀ φ ks
  writing ks =
      let M = match_run R ks in
      record {
        with_this = λ x d c w.
            let y = pick x (ledger_of R ks).commits (M.every x d) M.recorded (held ks) in
            subst (λ (x : Name). wrote (tx ks x) c ≡ true → Holds (run φ (firsts (commit n (tx ks x)) ks)) x.session c) y.1
            (λ w. rw y.2.commit (y.3 c (sym (ap (λ (f : ℕ → Bool). f c) y.2.wrote) ∙ w))) w;
        not_before = λ x m d a b c w al.
            let o = not_yet ks x d m a b in
            let u = (match_run R (firsts m ks)).open' x o.open' in
            unheld (inv_run R (firsts m ks)) x.session (ap (λ (t : Txn). t.live) u ∙ o.open') (ap (λ (t : Txn). t.done) u ∙ o.not_done)
            (wrote (tx ks x)) (λ l c h. o.wrote (subst (λ (z : ℕ). 0 < z) (ap (λ (t : Txn). t.snap) u) l) c (sym (ap (λ (t : Txn). t.wrote c) u) ∙ h)) c w al;
        not_uncommitted = λ x o d c w al.
            let u = M.open' x o in
            unheld (inv_run R ks) x.session (ap (λ (t : Txn). t.live) u ∙ o) (ap (λ (t : Txn). t.done) u ∙ d)
            (wrote (tx ks x)) (λ _ c h. sym (ap (λ (t : Txn). t.wrote c) u) ∙ h) c w al;
      }

  pub isolation : (ks : List Action) → Isolated φ.lent.values (history h₀ φ ks)
  isolation ks =
      let M = match_run R ks in
      isolated φ.lent.values (history h₀ φ ks) (ledger_of R ks).commits (inv_run R ks).lawful M.recorded M.every M.stands
