-- The serial store meets the ledger: with one transaction open at most, its draft is the last committed values under what that transaction wrote,
-- and its values are the last committed ones until that transaction commits. Each piece of news keeps this, by cases on committed before and after.
use Prim.Native.Nat.{ℕ, ◌<◌}
use native.Mathlib.Omega.{arith}
use mathlib.Core.Path.{◌≡◌, refl, sym, ◌∙◌, ap}
use mathlib.Core.Bool.{Bool, true, false, cond, not, ◌&&◌, ◌||◌}
use mathlib.Core.List.{List, ◌∷◌}
use lib.Dec.{eqb}
use lib.ListN.{length, get_or, set, length-set}
use lib.Seq.{get_or-set_same, get_or-set_other}
use borrow.Author.Tests.{eqb-true, not-true}
use Rattle.model.specs.Serial.{Serial}
use Rattle.model.proofs.Invariant.{latest}
use Rattle.model.proofs.Ledger.{Txn, opened, closed, saw, wrote_to, holds_to, Commit, Ledger, tick, calm, as_commit, amend, starts}
use Rattle.model.proofs.Roles.{flip}
use Rattle.model.proofs.Tools.{same, split, test, clash, both_l, both_r, upd, upd_same, upd_other}

or_true : (a : Bool) → (a || true) ≡ true
or_true true = refl
or_true false = refl

-- values under what a transaction wrote
abbrev pub overlay : Txn → (ℕ → ℕ) → ℕ → ℕ
overlay t f c = cond (t.wrote c) (t.value c) (f c)

-- a list holds these values, at the cells below n
abbrev pub Shows : ℕ → List ℕ → (ℕ → ℕ) → Type 0
Shows n vs f = (c : ℕ) → c < n → get_or vs c 0 ≡ f c

-- the commits after session s's transaction t became u at place p: one more where u is committed and t was not
abbrev pub commits_after : ℕ → ℕ → Txn → Txn → List Commit → List Commit
commits_after s p t u ks = cond (u.done && not t.done) (as_commit s p u ∷ ks) ks

-- the serial store and an open transaction
pub record Works (start : List ℕ) (ks : List Commit) (t : Txn) (z : Serial) : Type 0 where
  pub values : t.done ≡ false → Shows (length start) z.values (latest start ks)
  pub draft : t.done ≡ false → Shows (length start) z.draft (overlay t (latest start ks))
  pub committed : t.done ≡ true → Shows (length start) z.draft (latest start ks)

-- no two transactions are open; the serial store with none open, and with one
pub record Follows (start : List ℕ) (T : Ledger) (z : Serial) : Type 0 where
  pub alone : (s u : ℕ) → (T.mine s).live ≡ true → (T.mine u).live ≡ true → u ≡ s
  pub closed : ((s : ℕ) → (T.mine s).live ≡ false) → Shows (length start) z.values (latest start T.commits)
  pub works : (s : ℕ) → (T.mine s).live ≡ true → Works start T.commits (T.mine s) z
  pub lengths : (length z.values ≡ length start) × (length z.draft ≡ length start)

-- news that leaves what was written as it is, and a committed transaction committed
works_on : {start : List ℕ} {ks : List Commit} {t : Txn} {z : Serial} (s p : ℕ) (u : Txn) → Works start ks t z → u.wrote ≡ t.wrote → u.value ≡ t.value
    → (t.done ≡ true → u.done ≡ true) → Works start (commits_after s p t u ks) u z
unfolding latest
works_on {start} {ks} {t} {z} s p u w a b m =
    split (λ (ls : List Commit). Works start ls u z) (u.done && not t.done)
    (λ y.
    let e = both_l u.done (not t.done) y in
    let d = not-true t.done (both_r u.done (not t.done) y) in
    record { values = λ f. absurd (clash u.done e f); draft = λ f. absurd (clash u.done e f); committed = λ _. rw (a, b) (w.draft d) })
    (λ y.
    record {
      values = λ e. w.values (open_before e);
      draft = λ e. rw (a, b) (w.draft (open_before e));
      committed = λ e. test t.done (λ d. w.committed d) (λ d. absurd (clash (u.done && not t.done) (rw (e, d)) y));
    })
  where
    open_before : u.done ≡ false → t.done ≡ false
    open_before e = flip t.done (λ d. clash u.done (m d) e)

module _ {start : List ℕ} {T : Ledger} {z : Serial} (F : Follows start T z) where
  -- nothing is told
  pub follows_tick : Follows start (tick T) z
  follows_tick = record { alone = F.alone; closed = F.closed; works = F.works; lengths = F.lengths }

  pub follows_calm : Follows start (calm T) z
  follows_calm = record { alone = F.alone; closed = F.closed; works = F.works; lengths = F.lengths }

  -- a transaction begins where none is open
  pub follows_start : (s : ℕ) → ((u : ℕ) → (T.mine u).live ≡ false) → Follows start (starts s T) (record { values = z.values; draft = z.values })
  unfolding starts
  follows_start s dead =
      record {
        alone = λ a b p q. only b q ∙ sym (only a p);
        closed = λ h. absurd (clash (upd T.mine s t s).live (ap (λ (u : Txn). u.live) (upd_same T.mine s t)) (h s));
        works = λ a p. rw (only a p, upd_same T.mine s t)
            (record { values = λ _. F.closed dead; draft = λ _. F.closed dead; committed = λ d. absurd (clash false d refl) });
        lengths = (F.lengths.0, F.lengths.0);
      }
    where
      t : Txn
      t = opened T.place

      only : (a : ℕ) → (upd T.mine s t a).live ≡ true → a ≡ s
      only a p = same a s (λ e. e) (λ n. absurd (clash (T.mine a).live (ap (λ (u : Txn). u.live) (sym (upd_other T.mine s t a n)) ∙ p) (dead a)))

  module _ (s : ℕ) (l : (T.mine s).live ≡ true) where
    -- session s's transaction becomes f of it
    amended : (f : Txn → Txn) (y : Serial) → let t = T.mine s in let ks = commits_after s T.place t (f t) T.commits in
        (length y.values ≡ length start) × (length y.draft ≡ length start)
        → ((f t).live ≡ false → Shows (length start) y.values (latest start ks)) → ((f t).live ≡ true → Works start ks (f t) y) → Follows start (amend s f T) y
    unfolding amend
    amended f y len shut go =
        split (λ (U : Ledger). Follows start U y) (T.mine s).live
        (λ _.
        record {
          alone = λ a b p q. F.alone a b (was a p) (was b q);
          closed = λ h. shut (rw (upd_same T.mine s (f (T.mine s))) at (h s));
          works = λ a p. same a s
              (λ e. rw (e, upd_same T.mine s (f (T.mine s))) (go (rw (e, upd_same T.mine s (f (T.mine s))) at p)))
              (λ n. absurd (n (F.alone s a l (was a p))));
          lengths = len;
        })
        (λ d. absurd (clash (T.mine s).live l d))
      where
        was : (a : ℕ) → (upd T.mine s (f (T.mine s)) a).live ≡ true → (T.mine a).live ≡ true
        was a p = same a s (λ e. rw e l) (λ n. rw (upd_other T.mine s (f (T.mine s)) a n) at p)

    -- it goes on
    pub follows_on : (f : Txn → Txn) → let t = T.mine s in
        (f t).live ≡ true → (f t).wrote ≡ t.wrote → (f t).value ≡ t.value → (t.done ≡ true → (f t).done ≡ true) → Follows start (amend s f T) z
    follows_on f h a b m =
        amended f z F.lengths (λ d. absurd (clash (f (T.mine s)).live h d)) (λ _. works_on s T.place (f (T.mine s)) (F.works s l) a b m)

    -- it ends committed: the values are the draft
    pub follows_commit : (f : Txn → Txn) → let t = T.mine s in
        (f t).live ≡ false → (f t).wrote ≡ t.wrote → (f t).value ≡ t.value → (f t).done ≡ true → Follows start (amend s f T) (record { values = z.draft; draft = z.draft })
    follows_commit f h a b m =
        amended f (record { values = z.draft; draft = z.draft }) (F.lengths.1, F.lengths.1)
        (λ _. (works_on s T.place (f (T.mine s)) (F.works s l) a b (λ _. m)).committed m) (λ e. absurd (clash (f (T.mine s)).live e h))

    -- it ends not committed
    pub follows_end : (T.mine s).done ≡ false → Follows start (amend s closed T) z
    follows_end d =
        amended closed z F.lengths (λ _. (works_on s T.place (closed (T.mine s)) (F.works s l) refl refl (λ e. e)).values d) (λ e. absurd (clash false e refl))

    -- it writes; a value equal to the one found, which is the last committed, leaves the draft that value
    pub follows_write : (c v f : ℕ) → c < length start → (T.mine s).done ≡ false → f ≡ latest start T.commits c
        → Follows start (amend s (wrote_to c v f) T) (record { values = z.values; draft = set z.draft c v })
    follows_write c v f lc d found =
        amended (wrote_to c v f) (record { values = z.values; draft = set z.draft c v })
        (F.lengths.0, length-set z.draft c v ∙ F.lengths.1) (λ e. absurd (clash (T.mine s).live l e))
        (λ _.
        split (λ (ks : List Commit). Works start ks (wrote_to c v f (T.mine s)) (record { values = z.values; draft = set z.draft c v }))
        ((T.mine s).done && not (T.mine s).done) (λ y. absurd (clash (T.mine s).done (both_l (T.mine s).done (not (T.mine s).done) y) d))
        (λ _.
        record {
          values = λ _. W.values d;
          draft = λ _ e le. same e c
              (λ q. rw (q, upd_same (T.mine s).wrote c w, upd_same (T.mine s).value c v)
              (get_or-set_same z.draft c v 0 (omega (arith, F.lengths.1)) ∙ test w (λ y. rw y) (λ y. rw y (unwritten y))))
              (λ n. rw (upd_other (T.mine s).wrote c w e n, upd_other (T.mine s).value c v e n) (get_or-set_other z.draft c e v 0 n ∙ W.draft d e le));
          committed = λ e. absurd (clash (T.mine s).done e d);
        }))
      where
        W : Works start T.commits (T.mine s) z
        W = F.works s l

        w : Bool
        w = (T.mine s).held c || not (eqb v f)

        unwritten : w ≡ false → v ≡ latest start T.commits c
        unwritten y = test (eqb v f) (λ q. eqb-true v f q ∙ found) (λ q. absurd (clash ((T.mine s).held c || not (eqb v f)) (rw q (or_true ((T.mine s).held c))) y))

    -- it holds a cell: the draft stays, where what counts is what it has there
    pub follows_hold : (c v f : ℕ) → (T.mine s).done ≡ false
        → cond ((T.mine s).dirtied c) ((T.mine s).value c) f ≡ overlay (T.mine s) (latest start T.commits) c
        → Follows start (amend s (λ t. saw c v (holds_to c f t)) T) z
    follows_hold c v f d has =
        amended (λ t. saw c v (holds_to c f t)) z F.lengths (λ e. absurd (clash (T.mine s).live l e))
        (λ _.
        split (λ (ks : List Commit). Works start ks (saw c v (holds_to c f (T.mine s))) z)
        ((T.mine s).done && not (T.mine s).done) (λ y. absurd (clash (T.mine s).done (both_l (T.mine s).done (not (T.mine s).done) y) d))
        (λ _.
        record {
          values = λ _. (F.works s l).values d;
          draft = λ _ e le. same e c
              (λ q. rw (q, upd_same (T.mine s).wrote c true, upd_same (T.mine s).value c (cond ((T.mine s).dirtied c) ((T.mine s).value c) f), has) (rw q at ((F.works s l).draft d e le)))
              (λ n. rw (upd_other (T.mine s).wrote c true e n, upd_other (T.mine s).value c (cond ((T.mine s).dirtied c) ((T.mine s).value c) f) e n) ((F.works s l).draft d e le));
          committed = λ e. absurd (clash (T.mine s).done e d);
        }))

-- it is sealed with nothing written and ends committed: the values are the draft
pub follows_rest : {start : List ℕ} {T : Ledger} {z : Serial} → Follows start T z → (s : ℕ) → (T.mine s).live ≡ true → (f : Txn → Txn) → let t = T.mine s in
    (f t).live ≡ true → (f t).wrote ≡ t.wrote → (f t).value ≡ t.value → (f t).done ≡ true → Follows start (amend s closed (amend s f T)) (record { values = z.draft; draft = z.draft })
follows_rest {start} {T} {z} F s l f h a b m =
    let U = amend s f T in
    let e : U.mine s ≡ f (T.mine s) = now in
    follows_commit (follows_on F s l f h a b (λ _. m)) s (ap (λ (t : Txn). t.live) e ∙ h) closed refl refl refl (ap (λ (t : Txn). t.done) e ∙ m)
  where
    now : (amend s f T).mine s ≡ f (T.mine s)
    now = unfold amend in split (λ (U : Ledger). U.mine s ≡ f (T.mine s)) (T.mine s).live (λ _. upd_same T.mine s (f (T.mine s))) (λ d. absurd (clash (T.mine s).live l d))
