-- The transactions that a list tells, one for each name, are those that the ledger keeps as the run goes: one thing more told.
use Prim.Native.Nat.{ℕ, ◌<◌}
use mathlib.Core.Path.{◌≡◌, refl, sym, ◌∙◌, ap, subst}
use mathlib.Core.Logic.{◌⊎◌, inl, inr}
use mathlib.Core.Bool.{Bool, true, false, cond, not, ◌&&◌, ◌||◌}
use mathlib.Core.List.{List, [], ◌∷◌}
use lib.Dec.{eqb}
use borrow.Author.Tests.{eqb-true, eq-eqb, ne_eqb, not-true}
use Rattle.model.specs.History.{Item, Name, name, extend, transaction, is_open, wrote, value_written, snapshot, commit, committed}
use Rattle.model.specs.Isolation.{All}
use Rattle.model.specs.Told.{Told, began, got, put, held, sealed, moved, ended, begins, seals, ends, ReadOf}
use Rattle.model.proofs.Invariant.{all_map}
use Rattle.model.proofs.Ledger.{Txn, opened, Commit, Ledger, as_commit, amend, starts, note, hear}
use Rattle.model.proofs.Tools.{same, test, clash, both_l, both_r, upd, upd_same, upd_other}
use Rattle.model.proofs.Words.{observed, summary, Fits, more, empty_committed, alone, settled, fits_early, Early, commits_here}

pub name_is : (p s : ℕ) (x : Name) → p ≡ x.place → s ≡ x.session → name p s ≡ x
name_is p s x a b = rw (a, b)

pub cond_at {ℓ} : {A : Type ℓ} (b : Bool) (x y : A) → b ≡ true → cond b x y ≡ x
cond_at b x y h = rw h

pub cond_off {ℓ} : {A : Type ℓ} (b : Bool) (x y : A) → b ≡ false → cond b x y ≡ y
cond_off b x y h = rw h

-- ---- a transaction, and one thing more told

-- it stays; or it was open, of that session, and goes on; or it begins
pub data Next (x : Name) (i : Item) (h : List Item) : Type 0 where
  stays : transaction x (i ∷ h) ≡ transaction x h → (x.session ≡ i.session → is_open (transaction x h) ≡ false) → Next x i h
  grows : x.session ≡ i.session → is_open (transaction x h) ≡ true → transaction x (i ∷ h) ≡ i ∷ transaction x h → Next x i h
  starts_here : begins i.told ≡ true → x.place ≡ i.place → x.session ≡ i.session → transaction x h ≡ [] → transaction x (i ∷ h) ≡ i ∷ [] → Next x i h

pub next : (x : Name) (i : Item) (h : List Item) → Next x i h
next x i h =
    same i.session x.session (λ e. go e (transaction x h) refl)
    (λ d. stays (unfold transaction in rw (ne_eqb i.session x.session d)) (λ e. absurd (d (sym e))))
  where
    mine : i.session ≡ x.session → transaction x (i ∷ h) ≡ extend x.place i (transaction x h)
    mine e = unfold transaction in rw (eq-eqb i.session x.session e)

    go : i.session ≡ x.session → (t : List Item) → transaction x h ≡ t → Next x i h
    go e [] n =
        test (begins i.told && eqb i.place x.place)
        (λ y. starts_here (both_l (begins i.told) (eqb i.place x.place) y)
        (sym (eqb-true i.place x.place (both_r (begins i.told) (eqb i.place x.place) y))) (sym e) n (mine e ∙ rw (n, y)))
        (λ y. stays (mine e ∙ rw (n, y)) (λ _. rw n))
    go e (j ∷ t) n =
        test (ends j.told) (λ y. stays (mine e ∙ rw (n, y)) (λ _. rw (n, y))) (λ y. grows (sym e) (rw (n, y)) (mine e ∙ rw (n, y)))

-- ---- the ledger and the transactions

abbrev pub name_of : Commit → Name
name_of k = name k.began k.who

-- a commit is what the transaction of its name tells
pub record Kept (n : ℕ) (k : Commit) (t : List Item) : Type 0 where
  pub committed : committed n t ≡ true
  pub commit : commit n t ≡ k.place
  pub snapshot : snapshot t ≡ k.snap
  pub reads : observed t ≡ k.reads
  pub wrote : wrote t ≡ k.wrote
  pub value : value_written t ≡ k.value

abbrev pub Recorded : ℕ → List Item → Commit → Type 0
Recorded n h k = Kept n k (transaction (name_of k) h)

abbrev pub In : Name → List Commit → Type 0
In x [] = ⊥
In x (k ∷ ks) = (name_of k ≡ x) ⊎ In x ks

-- a transaction's seal stands after its begin; what else it tells may share the begin's place, as at a start
abbrev pub Stands : Name → Item → Type 0
Stands x i = seals i.told ≡ true → x.place < i.place

pub record Matches (n : ℕ) (h : List Item) (T : Ledger) : Type 0 where
  pub open' : (x : Name) → is_open (transaction x h) ≡ true → T.mine x.session ≡ summary n x.place (transaction x h)
  pub mine : (s : ℕ) → (T.mine s).live ≡ true → is_open (transaction (name (T.mine s).began s) h) ≡ true
  pub recorded : All (Recorded n h) T.commits
  pub every : (x : Name) → committed n (transaction x h) ≡ true → In x T.commits
  pub stands : (x : Name) → All (Stands x) (transaction x h)
  pub early : (x : Name) → Early (transaction x h)

recorded_same : (n : ℕ) (h g : List Item) (k : Commit) → transaction (name_of k) g ≡ transaction (name_of k) h → Recorded n h k → Recorded n g k
recorded_same n h g k e r =
    subst (Kept n k) (sym e) r

-- nothing that the ledger keeps has changed
pub unchanged : {n : ℕ} {h g : List Item} {T U : Ledger} → ((x : Name) → transaction x g ≡ transaction x h) → U.mine ≡ T.mine → U.commits ≡ T.commits → Matches n h T → Matches n g U
unchanged {n} {h} {g} {T} {U} e a b M =
    record {
      open' = λ x. rw (e x, a) (M.open' x);
      mine = λ s. rw a (λ l. rw (e (name (T.mine s).began s)) (M.mine s l));
      recorded = rw b (all_map (λ k r. recorded_same n h g k (e (name_of k)) r) T.commits M.recorded);
      every = λ x. rw (e x, b) (M.every x);
      stands = λ x. rw (e x) (M.stands x);
      early = λ x. rw (e x) (M.early x);
    }

module _ {n : ℕ} {h : List Item} {T : Ledger} (M : Matches n h T) (s : ℕ) (w : Told) where
  abbrev i : Item
  i = record { place = T.place; session = s; told = w }

  -- an open transaction of the session: the ledger has it
  told_live : (x : Name) → x.session ≡ s → is_open (transaction x h) ≡ true → T.mine s ≡ summary n x.place (transaction x h)
  told_live x e o = ap T.mine (sym e) ∙ M.open' x o

  -- no transaction of the session is open
  module _ (dead : (T.mine s).live ≡ false) where
    shut : (x : Name) → x.session ≡ s → is_open (transaction x h) ≡ true → ⊥
    shut x e o = clash (is_open (transaction x h)) o (sym (ap (λ (t : Txn). t.live) (told_live x e o)) ∙ dead)

    pub silent : begins w ≡ false → Matches n (i ∷ h) T
    silent b = unchanged (λ x. go x (next x i h)) refl refl M
      where
        go : (x : Name) → Next x i h → transaction x (i ∷ h) ≡ transaction x h
        go x (stays e _) = e
        go x (grows e o _) = absurd (shut x e o)
        go x (starts_here y _ _ _ _) = absurd (clash (begins w) y b)

    -- a transaction begins
    pub opens : w ≡ began → transaction (name T.place s) h ≡ [] → Matches n (i ∷ h) (starts s T)
    unfolding starts
    opens b none =
        record {
          open' = λ x. on x (next x i h);
          mine = λ t. same t s (λ e. rw (e, upd_same T.mine s u) (λ _. born)) (λ d. rw (upd_other T.mine s u t d) (λ l. off t d (T.mine t).began (next (name (T.mine t).began t) i h) (M.mine t l)));
          recorded = all_map (λ k r. rec k (next (name_of k) i h) r) T.commits M.recorded;
          every = λ x. ev x (next x i h);
          stands = λ x. st x (next x i h);
          early = λ x. ea x (next x i h);
        }
      where
        u : Txn
        u = opened T.place

        is : u ≡ summary n T.place (i ∷ [])
        is = rw b (alone n T.place s)

        born : is_open (transaction (name T.place s) (i ∷ h)) ≡ true
        born = unfold transaction in rw (eq-eqb s s refl, none, b, eq-eqb T.place T.place refl)

        on : (x : Name) → Next x i h → is_open (transaction x (i ∷ h)) ≡ true → upd T.mine s u x.session ≡ summary n x.place (transaction x (i ∷ h))
        on x (stays e c) o =
            let p : is_open (transaction x h) ≡ true = rw e at o in
            rw e (upd_other T.mine s u x.session (λ d. clash (is_open (transaction x h)) p (c d)) ∙ M.open' x p)
        on x (grows e p _) o = absurd (shut x e p)
        on x (starts_here _ p e _ f) o =
            ap (upd T.mine s u) e ∙ upd_same T.mine s u ∙ is ∙ ap (λ (p : ℕ). summary n p (i ∷ [])) (sym p) ∙ ap (summary n x.place) (sym f)

        off : (t : ℕ) → (t ≡ s → ⊥) → (p : ℕ) → Next (name p t) i h → is_open (transaction (name p t) h) ≡ true → is_open (transaction (name p t) (i ∷ h)) ≡ true
        off t d p (stays e _) o = rw e o
        off t d p (grows e _ _) o = absurd (d e)
        off t d p (starts_here _ _ e _ _) o = absurd (d e)

        rec : (k : Commit) → Next (name_of k) i h → Recorded n h k → Recorded n (i ∷ h) k
        rec k (stays e _) r = recorded_same n h (i ∷ h) k e r
        rec k (grows e o _) r = absurd (shut (name_of k) e o)
        rec k (starts_here _ _ _ e _) r = absurd (clash (committed n (transaction (name_of k) h)) r.committed (rw e (empty_committed n)))

        ev : (x : Name) → Next x i h → committed n (transaction x (i ∷ h)) ≡ true → In x T.commits
        ev x (stays e _) d = M.every x (rw e at d)
        ev x (grows e o _) d = absurd (shut x e o)
        ev x (starts_here _ _ _ _ e) d = absurd (clash (committed n (i ∷ [])) (rw e at d) (sym (ap (λ (t : Txn). t.done) is)))

        st : (x : Name) → Next x i h → All (Stands x) (transaction x (i ∷ h))
        st x (stays e _) = rw e (M.stands x)
        st x (grows e o _) = absurd (shut x e o)
        st x (starts_here _ _ _ _ e) = rw e ((λ z. absurd (clash (seals w) z (ap seals b))), tt)

        ea : (x : Name) → Next x i h → Early (transaction x (i ∷ h))
        ea x (stays e _) = rw e (M.early x)
        ea x (grows e o _) = absurd (shut x e o)
        ea x (starts_here _ _ _ _ e) = rw e ((λ c z. unfold snapshot in refl), tt)

  -- the open transaction of the session goes on
  module _ (l : (T.mine s).live ≡ true) (b : begins w ≡ false) (fits : Fits (T.mine s) w) (late : 0 < T.place)
      (before : (x : Name) → is_open (transaction x h) ≡ true → x.place < T.place) where
    abbrev u : Txn
    u = note n T.place w (T.mine s)

    -- what it tells now
    now : (x : Name) → x.session ≡ s → is_open (transaction x h) ≡ true → u ≡ summary n x.place (i ∷ transaction x h)
    now x e o =
        let k = told_live x e o in
        ap (note n T.place w) k ∙ more n T.place s (transaction x h) x.place w o late (λ _. subst (λ (t : Txn). Fits t w) k fits)

    abbrev x₀ : Name
    x₀ = name (T.mine s).began s

    o₀ : is_open (transaction (name (T.mine s).began s) h) ≡ true
    o₀ = M.mine s l

    began_is : u.began ≡ (T.mine s).began
    began_is = ap (λ (t : Txn). t.began) (now x₀ refl o₀)

    goes : transaction (name (T.mine s).began s) (i ∷ h) ≡ i ∷ transaction (name (T.mine s).began s) h
    goes = go (next x₀ i h)
      where
        go : Next (name (T.mine s).began s) i h → transaction (name (T.mine s).began s) (i ∷ h) ≡ i ∷ transaction (name (T.mine s).began s) h
        go (stays _ c) = absurd (clash (is_open (transaction x₀ h)) o₀ (c refl))
        go (grows _ _ e) = e
        go (starts_here y _ _ _ _) = absurd (clash (begins w) y b)

    rec : (k : Commit) → Next (name_of k) i h → Recorded n h k → Recorded n (i ∷ h) k
    rec k (stays e _) r = recorded_same n h (i ∷ h) k e r
    rec k (starts_here y _ _ _ _) r = absurd (clash (begins w) y b)
    rec k (grows e o g) r =
        let x = name_of k in
        let a = told_live x e o in
        let c = now x e o in
        let m = settled n T.place w (T.mine s) (ap (λ (t : Txn). t.done) a ∙ r.committed) fits in
        let via : (A : Type 0) (f : Txn → A) → f u ≡ f (T.mine s) → f (summary n x.place (i ∷ transaction x h)) ≡ f (summary n x.place (transaction x h)) = λ A f z. sym (ap f c) ∙ z ∙ ap f a in
        subst (Kept n k) (sym g)
        (record {
          committed = via Bool (λ t. t.done) m.done ∙ r.committed;
          commit = via ℕ (λ t. t.commit) m.commit ∙ r.commit;
          snapshot = via ℕ (λ t. t.snap) m.snap ∙ r.snapshot;
          reads = via (List ReadOf) (λ t. t.reads) m.reads ∙ r.reads;
          wrote = via (ℕ → Bool) (λ t. t.wrote) m.wrote ∙ r.wrote;
          value = via (ℕ → ℕ) (λ t. t.value) m.value ∙ r.value;
        })

    pub changes : (ks : List Commit) (nw : Bool) → All (Recorded n (i ∷ h)) ks → ((x : Name) → committed n (transaction x h) ≡ true → In x ks)
        → ((T.mine s).done ≡ false → u.done ≡ true → In (name (T.mine s).began s) ks)
        → Matches n (i ∷ h) (record { place = T.place; mine = upd T.mine s u; commits = ks; new = nw })
    changes ks nw rs ev fresh =
        record {
          open' = λ x. on x (next x i h);
          mine = λ t. same t s
              (λ e. rw (e, upd_same T.mine s u) (λ v. rw (began_is, goes) (sym (ap (λ (t : Txn). t.live) (now x₀ refl o₀)) ∙ v)))
              (λ d. rw (upd_other T.mine s u t d) (λ v. off t d (T.mine t).began (next (name (T.mine t).began t) i h) (M.mine t v)));
          recorded = rs;
          every = λ x. all x (next x i h);
          stands = λ x. st x (next x i h);
          early = λ x. ea x (next x i h);
        }
      where
        on : (x : Name) → Next x i h → is_open (transaction x (i ∷ h)) ≡ true → upd T.mine s u x.session ≡ summary n x.place (transaction x (i ∷ h))
        on x (stays e c) o =
            let p : is_open (transaction x h) ≡ true = rw e at o in
            rw e (upd_other T.mine s u x.session (λ d. clash (is_open (transaction x h)) p (c d)) ∙ M.open' x p)
        on x (grows e p g) o = ap (upd T.mine s u) e ∙ upd_same T.mine s u ∙ now x e p ∙ ap (summary n x.place) (sym g)
        on x (starts_here y _ _ _ _) o = absurd (clash (begins w) y b)

        off : (t : ℕ) → (t ≡ s → ⊥) → (p : ℕ) → Next (name p t) i h → is_open (transaction (name p t) h) ≡ true → is_open (transaction (name p t) (i ∷ h)) ≡ true
        off t d p (stays e _) o = rw e o
        off t d p (grows e _ _) o = absurd (d e)
        off t d p (starts_here _ _ e _ _) o = absurd (d e)

        all : (x : Name) → Next x i h → committed n (transaction x (i ∷ h)) ≡ true → In x ks
        all x (stays e _) d = ev x (rw e at d)
        all x (starts_here y _ _ _ _) d = absurd (clash (begins w) y b)
        all x (grows e o g) d =
            let a = told_live x e o in
            test (committed n (transaction x h)) (λ y. ev x y)
            (λ y. subst (λ (x : Name). In x ks) (name_is (T.mine s).began s x (ap (λ (t : Txn). t.began) a) (sym e))
            (fresh (ap (λ (t : Txn). t.done) a ∙ y) (ap (λ (t : Txn). t.done) (now x e o) ∙ (rw g at d))))

        st : (x : Name) → Next x i h → All (Stands x) (transaction x (i ∷ h))
        st x (stays e _) = rw e (M.stands x)
        st x (grows e o g) = rw g ((λ _. before x o), M.stands x)
        st x (starts_here y _ _ _ _) = absurd (clash (begins w) y b)

        ea : (x : Name) → Next x i h → Early (transaction x (i ∷ h))
        ea x (stays e _) = rw e (M.early x)
        ea x (grows e o g) = rw g ((λ c z. sym (ap (λ (t : Txn). t.snap) (told_live x e o)) ∙ fits_early w (T.mine s) fits c z), M.early x)
        ea x (starts_here y _ _ _ _) = absurd (clash (begins w) y b)

    -- with the commit that it may make
    pub amends : Matches n (i ∷ h) (amend s (note n T.place w) T)
    unfolding amend
    amends = subst (Matches n (i ∷ h)) (sym (cond_at (T.mine s).live _ _ l)) (go (u.done && not (T.mine s).done) refl)
      where
        older : All (Recorded n (i ∷ h)) T.commits
        older = all_map (λ k r. rec k (next (name_of k) i h) r) T.commits M.recorded

        go : (d : Bool) → (u.done && not (T.mine s).done) ≡ d
            → Matches n (i ∷ h) (record { place = T.place; mine = upd T.mine s u; commits = cond d (as_commit s T.place u ∷ T.commits) T.commits; new = T.new || d })
        go false y = changes T.commits (T.new || false) older M.every (λ nd dn. absurd (clash (u.done && not (T.mine s).done) (rw (dn, nd)) y))
        go true y =
            let dn = both_l u.done (not (T.mine s).done) y in
            let nd = not-true (T.mine s).done (both_r u.done (not (T.mine s).done) y) in
            let c = now x₀ refl o₀ in
            changes (as_commit s T.place u ∷ T.commits) (T.new || true) (
              subst (Kept n (as_commit s T.place u)) (sym (ap (λ (p : ℕ). transaction (name p s) (i ∷ h)) began_is ∙ goes))
                  (record {
                    committed = sym (ap (λ (t : Txn). t.done) c) ∙ dn;
                    commit = sym (ap (λ (t : Txn). t.commit) c) ∙ commits_here n T.place w (T.mine s) nd dn;
                    snapshot = sym (ap (λ (t : Txn). t.snap) c);
                    reads = sym (ap (λ (t : Txn). t.reads) c);
                    wrote = sym (ap (λ (t : Txn). t.wrote) c);
                    value = sym (ap (λ (t : Txn). t.value) c);
                  }),
              older,
            )
            (λ x d. inr (M.every x d)) (λ _ _. inl (ap (λ (p : ℕ). name p s) began_is))

-- ---- what is told

module _ {n : ℕ} {h : List Item} {T : Ledger} (M : Matches n h T) (s : ℕ) (late : 0 < T.place)
    (before : (x : Name) → is_open (transaction x h) ≡ true → x.place < T.place) where
  goes_on_lem : (w : Told) → begins w ≡ false → Fits (T.mine s) w → Matches n (record { place = T.place; session = s; told = w } ∷ h) (amend s (note n T.place w) T)
  goes_on_lem w b f =
      test (T.mine s).live (λ l. amends M s w l b f late before)
      (λ l. unfold amend in subst (Matches n (record { place = T.place; session = s; told = w } ∷ h)) (sym (cond_off (T.mine s).live _ _ l)) (silent M s w l b))

  pub one_told : (w : Told) → Fits (T.mine s) w → (begins w ≡ true → transaction (name T.place s) h ≡ [])
      → Matches n (record { place = T.place; session = s; told = w } ∷ h) (hear n s w T)
  one_told began f e = opens M s began f refl (e refl)
  one_told (got c v) f e = goes_on_lem (got c v) refl f
  one_told (put c v g) f e = goes_on_lem (put c v g) refl f
  one_told (held c v g) f e = goes_on_lem (held c v g) refl f
  one_told sealed f e = goes_on_lem sealed refl f
  one_told moved f e = goes_on_lem moved refl f
  one_told ended f e = goes_on_lem ended refl f
