-- A start with transactions open. In every start each session is idle or runs; and whatever a list of actions leaves, if each session is idle or runs there,
-- is again a start, with what its open transactions have told at place 0.
use Prim.Native.Nat.{ℕ, zero, suc, ◌≤◌, ◌<◌}
use native.Mathlib.Omega.{arith}
use mathlib.Core.Path.{◌≡◌, refl, sym, ◌∙◌, ap, subst, fun_ext}
use mathlib.Core.Bool.{true, false, cond, ◌&&◌}
use mathlib.Core.List.{List, [], ◌∷◌, ◌++◌}
use lib.Dec.{ltb, eqb}
use lib.ListN.{length, get_or-eq_default}
use borrow.Author.Tests.{eq-eqb, ne_eqb, not-true, ltb-true, ltb-false}
use Rattle.model.specs.Buffers.{Store, idle, session_at}
use Rattle.model.specs.History.{Action, Item, item, run, history, Name, name, extend, transaction, is_open, dirtied, changed_in, held_in, wrote, value_written, cells_written, snapshot, moves_in, move_number, commit, committed}
use Rattle.model.specs.Isolation.{All, Demand3}
use Rattle.model.specs.Search.{below}
use Rattle.model.specs.Effects.{record_of}
use Rattle.model.specs.Told.{Told, seals, moves, ends}
use Rattle.model.proofs.Demand3.{demand3_from}
use Rattle.model.proofs.Effects.{not_pending}
use Rattle.model.proofs.Invariant.{latest, all_map, all_append, Running, Link, Shape, Inv}
use Rattle.model.proofs.Laws.{below_is}
use Rattle.model.proofs.Ledger.{Txn, Ledger}
use Rattle.model.proofs.Matching.{name_is, cond_at, cond_off, Next, stays, grows, starts_here, next, In, Stands, Matches}
use Rattle.model.proofs.Runs.{Ready, ledger_of, inv_run, match_run}
use Rattle.model.proofs.Settled.{unborn}
use Rattle.model.proofs.Tools.{same, split, test, clash}
use Rattle.model.proofs.View.{look}
use Rattle.model.proofs.Words.{observed, summary, build, Early, not_yet}

-- ---- things told at place 0

-- the same told at place 0
unfoldable pub at_start : List Item → List Item
at_start [] = []
at_start (i ∷ t) = item 0 i.session i.told ∷ at_start t

abbrev AtStart : List Item → Type 0
AtStart h = All (λ (i : Item). i.place < 1) h

start_below : (t : List Item) → AtStart (at_start t)
unfolding at_start
start_below [] = tt
start_below (i ∷ t) = (omega arith, start_below t)

-- a claim about sessions and what they tell does not go by places
start_all : (P : ℕ → Told → Type 0) (t : List Item) → All (λ (i : Item). P i.session i.told) t → All (λ (i : Item). P i.session i.told) (at_start t)
unfolding at_start
start_all P [] a = tt
start_all P (i ∷ t) a = (a.0, start_all P t a.1)

-- nor do these words
start_open : (t : List Item) → is_open (at_start t) ≡ is_open t
unfolding at_start
start_open [] = refl
start_open (i ∷ t) = refl

start_held : (t : List Item) → held_in (at_start t) ≡ held_in t
unfolding at_start held_in
start_held [] = refl
start_held (i ∷ t) = fun_ext (λ c. rw (start_held t))

start_changed : (t : List Item) → changed_in (at_start t) ≡ changed_in t
unfolding at_start changed_in
start_changed [] = refl
start_changed (i ∷ t) = fun_ext (λ c. rw (start_changed t))

start_wrote : (t : List Item) → wrote (at_start t) ≡ wrote t
unfolding wrote
start_wrote t = fun_ext (λ c. rw (start_held t, start_changed t))

start_dirtied : (t : List Item) → dirtied (at_start t) ≡ dirtied t
unfolding at_start dirtied
start_dirtied [] = refl
start_dirtied (i ∷ t) = fun_ext (λ c. rw (start_dirtied t))

start_value : (t : List Item) → value_written (at_start t) ≡ value_written t
unfolding at_start value_written
start_value [] = refl
start_value (i ∷ t) = fun_ext (λ c. rw (start_dirtied t, start_value t))

start_observed : (t : List Item) → observed (at_start t) ≡ observed t
unfolding at_start observed
start_observed [] = refl
start_observed (i ∷ t) = rw (start_dirtied t, start_observed t)

start_moves : (t : List Item) → moves_in (at_start t) ≡ moves_in t
unfolding at_start moves_in
start_moves [] = refl
start_moves (i ∷ t) = rw (start_moves t)

-- at place 0 nothing has a snapshot and nothing is committed
snapshot_none : (t : List Item) → AtStart t → snapshot t ≡ 0
unfolding snapshot
snapshot_none [] a = refl
snapshot_none (i ∷ t) a = split (λ (z : ℕ). z ≡ 0) (seals i.told) (λ _. omega (arith, a.0)) (λ _. snapshot_none t a.1)

early_none : (t : List Item) → AtStart t → Early t
early_none [] a = tt
early_none (i ∷ t) a = ((λ _ _. snapshot_none t a.1), early_none t a.1)

move_none : (m : ℕ) (t : List Item) → AtStart t → move_number m t ≡ 0
unfolding move_number
move_none m [] a = refl
move_none m (i ∷ t) a = split (λ (z : ℕ). z ≡ 0) (moves i.told && eqb (suc (moves_in t)) m) (λ _. omega (arith, a.0)) (λ _. move_none m t a.1)

commit_none : (n : ℕ) (t : List Item) → AtStart t → commit n t ≡ 0
unfolding commit
commit_none n t a = split (λ (z : ℕ). z ≡ 0) (eqb (cells_written n t) 0) (λ _. snapshot_none t a) (λ _. move_none (cells_written n t) t a)

committed_none : (n : ℕ) (t : List Item) → AtStart t → committed n t ≡ false
unfolding committed
committed_none n t a = ap (ltb 0) (commit_none n t a)

-- one that has no snapshot has told no seal
no_seal_told : (x : Name) (t : List Item) → All (Stands x) t → snapshot t ≡ 0 → All (λ (i : Item). seals i.told ≡ false) t
unfolding snapshot
no_seal_told x [] a e = tt
no_seal_told x (i ∷ t) a e =
    test (seals i.told) (λ y. absurd (let z : i.place ≡ 0 = rw y at e in omega (arith, a.0 y)))
    (λ y. (y, no_seal_told x t a.1 (rw y at e)))

-- ---- transactions of a part of what is told

own_step : (x : Name) (i : Item) (h : List Item) → i.session ≡ x.session → transaction x (i ∷ h) ≡ extend x.place i (transaction x h)
unfolding transaction
own_step x i h e = rw (eq-eqb i.session x.session e)

other_step : (x : Name) (i : Item) (h : List Item) → (i.session ≡ x.session → ⊥) → transaction x (i ∷ h) ≡ transaction x h
unfolding transaction
other_step x i h d = rw (ne_eqb i.session x.session d)

-- what a transaction tells is told
all_told : (P : Item → Type 0) (x : Name) (h : List Item) → All P h → All P (transaction x h)
all_told P x [] a = unfold transaction in tt
all_told P x (i ∷ h) a = go (all_told P x h a.1) (next x i h)
  where
    go : All P (transaction x h) → Next x i h → All P (transaction x (i ∷ h))
    go r (stays e _) = subst (All P) (sym e) r
    go r (grows _ _ e) = subst (All P) (sym e) (a.0, r)
    go r (starts_here _ _ _ _ e) = subst (All P) (sym e) (a.0, tt)

-- by its session
own : (x : Name) (h : List Item) → All (λ (i : Item). i.session ≡ x.session) (transaction x h)
own x [] = unfold transaction in tt
own x (i ∷ h) = go (own x h) (next x i h)
  where
    go : All (λ (i : Item). i.session ≡ x.session) (transaction x h) → Next x i h → All (λ (i : Item). i.session ≡ x.session) (transaction x (i ∷ h))
    go r (stays e _) = subst (All (λ (i : Item). i.session ≡ x.session)) (sym e) r
    go r (grows s _ e) = subst (All (λ (i : Item). i.session ≡ x.session)) (sym e) (sym s, r)
    go r (starts_here _ _ s _ e) = subst (All (λ (i : Item). i.session ≡ x.session)) (sym e) (sym s, tt)

-- at place 0 it is the transaction of place 0
again : (x : Name) (h : List Item) → transaction (name 0 x.session) (at_start (transaction x h)) ≡ at_start (transaction x h)
again x [] = unfold transaction at_start in refl
again x (i ∷ h) = go (again x h) (next x i h)
  where
    grown : (t : List Item) → i.session ≡ x.session → is_open t ≡ true → transaction (name 0 x.session) (at_start t) ≡ at_start t
        → transaction (name 0 x.session) (at_start (i ∷ t)) ≡ at_start (i ∷ t)
    grown [] s o r = absurd (clash false o refl)
    grown (j ∷ t) s o r =
        unfold at_start in
        own_step (name 0 x.session) (item 0 i.session i.told) (at_start (j ∷ t)) s ∙ ap (extend 0 (item 0 i.session i.told)) r
        ∙ cond_off (ends j.told) _ _ (not-true (ends j.told) o)

    go : transaction (name 0 x.session) (at_start (transaction x h)) ≡ at_start (transaction x h) → Next x i h
        → transaction (name 0 x.session) (at_start (transaction x (i ∷ h))) ≡ at_start (transaction x (i ∷ h))
    go r (stays e _) = rw e r
    go r (grows s o e) = rw e (grown (transaction x h) (sym s) o r)
    go r (starts_here b _ s _ e) = rw e (unfold at_start transaction in rw (eq-eqb i.session x.session (sym s), b))

-- of two parts, the newer is other sessions', or the older has told nothing of it
skips : (x : Name) (A B : List Item) → All (λ (i : Item). i.session ≡ x.session → ⊥) A → transaction x (A ++ B) ≡ transaction x B
skips x [] B a = refl
skips x (i ∷ A) B a = other_step x i (A ++ B) a.0 ∙ skips x A B a.1

only : (x : Name) (A B : List Item) → transaction x B ≡ [] → transaction x (A ++ B) ≡ transaction x A
only x [] B e = e ∙ unfold transaction in refl
only x (i ∷ A) B e = same i.session x.session
    (λ s. own_step x i (A ++ B) s ∙ ap (extend x.place i) (only x A B e) ∙ sym (own_step x i A s))
    (λ d. other_step x i (A ++ B) d ∙ only x A B e ∙ sym (other_step x i A d))

-- ---- each session idle or running

-- past the sixteen a record reads as idle
no_record : (σ : Store) (s : ℕ) → length σ.sessions.records ≡ 16 → 16 ≤ s → record_of σ s ≡ idle
unfolding session_at
no_record σ s e l = get_or-eq_default σ.sessions.records idle (omega (arith, e))

-- no session is in phases 2 to 4
abbrev pub NoneSealed : Store → Type 0
NoneSealed σ = (s : ℕ) → (record_of σ s).phase ≤ 1

-- it is enough to look at the sixteen
pub by_sixteen : (σ : Store) → length σ.sessions.records ≡ 16 → below 2 (λ s. (record_of σ s).phase) 16 ≡ true → NoneSealed σ
by_sixteen σ e b s =
    test (ltb s 16) (λ y. let w = below_is 2 (λ s. (record_of σ s).phase) 16 b s (ltb-true s 16 y) in omega arith)
    (λ y. rw (no_record σ s e (ltb-false s 16 y)) (omega arith))

-- so it is in every start: a sealed transaction has its snapshot after place 0, and a committed one is among the commits
pub ready_none_sealed : {φ : Store} {h : List Item} {T : Ledger} → Ready φ h T → NoneSealed φ
ready_none_sealed {φ} {h} {T} R s = go (record_of φ s).phase (R.inv.link s)
  where
    finished : (T.mine s).live ≡ true → (T.mine s).done ≡ true → ⊥
    finished l d =
        let x = name (T.mine s).began s in
        let c : committed (length φ.lent.values) (transaction (name (T.mine s).began s) h) ≡ true =
        sym (ap (λ (t : Txn). t.done) (R.match.open' x (R.match.mine s l))) ∙ d in
        subst (λ ks. In x ks) R.commits (R.match.every x c)

    go : (ph : ℕ) → Link φ.lent.values T.commits T.place (record_of φ s).next (look φ s) (T.mine s) ph → ph ≤ 1
    go zero l = omega arith
    go (suc zero) l = omega arith
    go (suc (suc zero)) l = absurd (omega (arith, l.sealed.0, l.sealed.1, R.place))
    go (suc (suc (suc zero))) l = absurd (finished l.live l.done)
    go (suc (suc (suc (suc zero)))) l = absurd (finished l.live l.done)
    go (suc (suc (suc (suc (suc k))))) l = absurd l

-- ---- a ledger to go on with: what is open began at place 0, and nothing is committed

abbrev pub from_start : Txn → Txn
from_start t =
    record {
      began = 0;
      live = t.live;
      reads = t.reads;
      dirtied = t.dirtied;
      held = t.held;
      wrote = t.wrote;
      value = t.value;
      snap = t.snap;
      moved = t.moved;
      done = t.done;
      commit = t.commit;
    }

abbrev pub restart : Ledger → Ledger
restart T = record { place = 1; mine = λ s. from_start (T.mine s); commits = []; new = false }

-- what the open transaction of session s tells, at place 0; of the sessions below k; of all
unfoldable pub open_of : List Item → Ledger → ℕ → List Item
open_of h T s = cond (T.mine s).live (at_start (transaction (name (T.mine s).began s) h)) []

unfoldable pub open_below : List Item → Ledger → ℕ → List Item
open_below h T zero = []
open_below h T (suc s) = open_of h T s ++ open_below h T s

unfoldable pub open_items : List Item → Ledger → List Item
open_items h T = open_below h T 16

module _ (h : List Item) (T : Ledger) where
  of_all : (P : Item → Type 0) (s : ℕ) → ((T.mine s).live ≡ true → All P (at_start (transaction (name (T.mine s).began s) h))) → All P (open_of h T s)
  unfolding open_of
  of_all P s f = split (All P) (T.mine s).live f (λ _. tt)

  below_all : (P : Item → Type 0) → ((s : ℕ) → All P (open_of h T s)) → (k : ℕ) → All P (open_below h T k)
  unfolding open_below
  below_all P f zero = tt
  below_all P f (suc s) = all_append P (open_of h T s) (open_below h T s) (f s) (below_all P f s)

  of_own : (s : ℕ) → All (λ (i : Item). i.session ≡ s) (open_of h T s)
  of_own s =
      let t = transaction (name (T.mine s).began s) h in
      of_all (λ i. i.session ≡ s) s (λ _. start_all (λ t _. t ≡ s) t (own (name (T.mine s).began s) h))

  of_others : (x : Name) (s : ℕ) → (s ≡ x.session → ⊥) → All (λ (i : Item). i.session ≡ x.session → ⊥) (open_of h T s)
  of_others x s d = all_map (λ i e f. d (sym e ∙ f)) (open_of h T s) (of_own s)

  -- a session's transactions stand among its own items
  beyond : (x : Name) (k : ℕ) → k ≤ x.session → transaction x (open_below h T k) ≡ []
  unfolding open_below
  beyond x zero l = unfold transaction in refl
  beyond x (suc s) l = skips x (open_of h T s) (open_below h T s) (of_others x s (λ e. omega arith)) ∙ beyond x s (omega arith)

  inside : (x : Name) (k : ℕ) → x.session < k → transaction x (open_below h T k) ≡ transaction x (open_of h T x.session)
  unfolding open_below
  inside x zero l = absurd (omega arith)
  inside x (suc s) l =
      same s x.session
      (λ e. only x (open_of h T s) (open_below h T s) (beyond x s (omega arith)) ∙ ap (λ (s : ℕ). transaction x (open_of h T s)) e)
      (λ d. skips x (open_of h T s) (open_below h T s) (of_others x s d) ∙ inside x s (omega arith))

  pub open_below_lem : All (λ (i : Item). i.place < 1) (open_items h T)
  unfolding open_items
  open_below_lem = below_all (λ i. i.place < 1) (λ s. of_all (λ i. i.place < 1) s (λ _. start_below (transaction (name (T.mine s).began s) h))) 16

  -- of a session with no open transaction there is none
  none_of : (x : Name) → (T.mine x.session).live ≡ false → transaction x (open_items h T) ≡ []
  unfolding open_items
  none_of x e =
      test (ltb x.session 16)
      (λ y. inside x 16 (ltb-true x.session 16 y) ∙ unfold open_of transaction in rw e)
      (λ y. beyond x 16 (ltb-false x.session 16 y))

  -- of the others it is theirs
  one_of : (s : ℕ) → s < 16 → (T.mine s).live ≡ true → transaction (name 0 s) (open_items h T) ≡ at_start (transaction (name (T.mine s).began s) h)
  unfolding open_items open_of
  one_of s l e = inside (name 0 s) 16 l ∙ ap (transaction (name 0 s)) (cond_at (T.mine s).live _ _ e) ∙ again (name (T.mine s).began s) h

-- of a store with the invariant, its ledger to go on with keeps it and matches
module _ {first : List ℕ} {σ : Store} {T : Ledger} (I : Inv first σ T) (u : NoneSealed σ) where
  -- an open transaction runs
  running : (s : ℕ) → (T.mine s).live ≡ true → Running (look σ s) (T.mine s)
  running s l = go (record_of σ s).phase (u s) (I.link s)
    where
      go : (p : ℕ) → p ≤ 1 → Link first T.commits T.place (record_of σ s).next (look σ s) (T.mine s) p → Running (look σ s) (T.mine s)
      go zero a k = absurd (clash (T.mine s).live l k)
      go (suc zero) a k = k
      go (suc (suc p)) a k = absurd (omega arith)

  -- of one of the sixteen sessions
  of_sixteen : (s : ℕ) → (T.mine s).live ≡ true → s < 16
  of_sixteen s l =
      test (ltb s 16) (λ y. ltb-true s 16 y) (λ y. absurd (clash (T.mine s).live l (rw (no_record σ s I.shape.records (ltb-false s 16 y)) at (I.link s))))

  -- the invariant does not go by where they began, and with nothing pending the last committed values are the store's
  pub inv_restart : Inv σ.lent.values σ (restart T)
  inv_restart =
      record {
        shape = subst (λ (n : ℕ). Shape n σ) (sym I.shape.values) I.shape;
        locked = λ c l. I.locked c (omega (arith, I.shape.values));
        valued = λ c l.
            let v = I.valued c (omega (arith, I.shape.values)) in
            let e = v.settled (λ s. not_pending σ s c (λ e. omega (arith, u s, e))) in
            record { fresh = λ s f h. v.fresh s f h ∙ sym e ∙ unfold latest in refl; due = λ s f h. v.due s f h ∙ sym e ∙ unfold latest in refl; settled = λ _. unfold latest in refl };
        link = λ s. go s (record_of σ s).phase (u s) (I.link s);
        lawful = tt;
        begun = omega arith;
        old = tt;
        just = tt;
      }
    where
      go : (s p : ℕ) → p ≤ 1 → Link first T.commits T.place (record_of σ s).next (look σ s) (T.mine s) p
          → Link σ.lent.values [] 1 (record_of σ s).next (look σ s) (from_start (T.mine s)) p
      go s zero a k = k
      go s (suc zero) a k =
          record {
            live = k.live;
            open' = k.open';
            moved = k.moved;
            unsealed = k.unsealed;
            dirtied = k.dirtied;
            held = k.held;
            wrote = k.wrote;
            value = k.value;
            reads = k.reads;
            clean = k.clean;
          }
      go s (suc (suc p)) a k = absurd (omega arith)

  module _ {n : ℕ} {h : List Item} (M : Matches n h T) where
    abbrev told_by_lem : ℕ → List Item
    told_by_lem s = transaction (name (T.mine s).began s) h

    is : (s : ℕ) → (T.mine s).live ≡ true → T.mine s ≡ summary n (T.mine s).began (transaction (name (T.mine s).began s) h)
    is s l = M.open' (name (T.mine s).began s) (M.mine s l)

    no_snapshot : (s : ℕ) → (T.mine s).live ≡ true → snapshot (transaction (name (T.mine s).began s) h) ≡ 0
    no_snapshot s l = sym (ap (λ (t : Txn). t.snap) (is s l)) ∙ (running s l).unsealed

    summed : (s : ℕ) → (T.mine s).live ≡ true → from_start (T.mine s) ≡ summary n 0 (at_start (transaction (name (T.mine s).began s) h))
    summed s l =
        let t = told_by_lem s in
        let b = start_below t in
        let d : committed n t ≡ false = sym (ap (λ (t : Txn). t.done) (is s l)) ∙ (running s l).open' in
        ap from_start (is s l) ∙ rw (start_open t)
        (build 0 (is_open t) (sym (start_observed t)) (sym (start_dirtied t)) (sym (start_held t)) (sym (start_wrote t)) (sym (start_value t)) (no_snapshot s l ∙ sym (snapshot_none (at_start t) b)) (sym (start_moves t))
        (d ∙ sym (committed_none n (at_start t) b)) (not_yet n 0 s t d ∙ sym (commit_none n (at_start t) b)))

    no_seals : All (λ (i : Item). seals i.told ≡ false) (open_items h T)
    unfolding open_items
    no_seals =
        below_all h T (λ i. seals i.told ≡ false)
        (λ s. of_all h T (λ i. seals i.told ≡ false) s
        (λ l. start_all (λ _ w. seals w ≡ false) (told_by_lem s) (no_seal_told (name (T.mine s).began s) (told_by_lem s) (M.stands (name (T.mine s).began s)) (no_snapshot s l)))) 16

    pub match_restart : Matches n (open_items h T) (restart T)
    match_restart =
        record {
          open' = λ x o. same x.place 0 (λ e. on x o e) (λ d. absurd (clash (is_open (transaction x g)) o (rw (unborn 1 g b x (omega arith)))));
          mine = λ s l. rw (one_of h T s (of_sixteen s l) l) (start_open (told_by_lem s) ∙ M.mine s l);
          recorded = tt;
          every = λ x d. clash (committed n (transaction x g)) d (committed_none n (transaction x g) (all_told (λ i. i.place < 1) x g b));
          stands = λ x. all_map (λ i e y. absurd (clash (seals i.told) y e)) (transaction x g) (all_told (λ i. seals i.told ≡ false) x g no_seals);
          early = λ x. early_none (transaction x g) (all_told (λ i. i.place < 1) x g b);
        }
      where
        g : List Item
        g = open_items h T

        b : All (λ (i : Item). i.place < 1) (open_items h T)
        b = open_below_lem h T

        on : (x : Name) → is_open (transaction x (open_items h T)) ≡ true → x.place ≡ 0
            → from_start (T.mine x.session) ≡ summary n x.place (transaction x (open_items h T))
        on x o e =
            let s = x.session in
            test (T.mine s).live
            (λ l. summed s l ∙ ap (summary n 0) (sym (one_of h T s (of_sixteen s l) l))
            ∙ ap (λ (x : Name). summary n x.place (transaction x (open_items h T))) (name_is 0 s x (sym e) refl))
            (λ l. absurd (clash (is_open (transaction x (open_items h T))) o (rw (none_of h T x l))))

-- what actions leave of any start, where each session is idle or runs, is a start
pub resumes : {φ : Store} {h₀ : List Item} {T₀ : Ledger} (R : Ready φ h₀ T₀) (ks : List Action) → NoneSealed (run φ ks)
    → Ready (run φ ks) (open_items (history h₀ φ ks) (ledger_of R ks)) (restart (ledger_of R ks))
resumes {φ} {h₀} R ks u =
    let I = inv_run R ks in
    record {
      inv = inv_restart I u;
      match = subst (λ (n : ℕ). Matches n (open_items (history h₀ φ ks) (ledger_of R ks)) (restart (ledger_of R ks))) (sym I.shape.values) (match_restart I u (match_run R ks));
      below = open_below_lem (history h₀ φ ks) (ledger_of R ks);
      place = refl;
      commits = refl;
    }

-- and demand 3 holds of every list of actions from there
pub demand3_resumed : {φ : Store} {h₀ : List Item} {T₀ : Ledger} (R : Ready φ h₀ T₀) (ks : List Action) → NoneSealed (run φ ks)
    → (actions : List Action) → Demand3 (open_items (history h₀ φ ks) (ledger_of R ks)) (run φ ks) actions
demand3_resumed R ks u = demand3_from (resumes R ks u)
