-- The words of demand 3 are read off what a transaction tells; the ledger keeps the same as the run goes. One thing more told keeps the two in
-- agreement, if what tells the snapshot or comes before it is told before the seal.
use Prim.Native.Nat.{ℕ, suc, ◌≤◌, ◌<◌}
use native.Mathlib.Omega.{arith}
use mathlib.Core.Path.{◌≡◌, refl, sym, ◌∙◌, ap, fun_ext, subst}
use mathlib.Core.Bool.{Bool, true, false, cond}
use mathlib.Core.List.{List, [], ◌∷◌}
use lib.Dec.{ltb, eqb}
use borrow.Author.Tests.{eqb-true, eqb-false, eq-eqb, ne_eqb, ltb-true, ltb-false, lt-ltb}
use Rattle.model.specs.History.{Item, is_open, dirtied, held_in, changed_in, wrote, value_written, cells_written, reads_before_writing, values_found, snapshot, moves_in, move_number, commit, committed}
use Rattle.model.specs.Isolation.{All}
use Rattle.model.specs.Search.{tally}
use Rattle.model.specs.Told.{Told, began, got, put, held, sealed, moved, ended, begins, writes, seals, moves, ReadOf, read_unless, and_found}
use Rattle.model.proofs.Ledger.{Txn, opened, note}
use Rattle.model.proofs.Tools.{same, split, test, clash, upd}

-- what it observed of the store: its reads before writing, and the values found at its writes and holds
unfoldable pub observed : List Item → List ReadOf
observed [] = []
observed (i ∷ t) = read_unless (dirtied t) i.told (and_found i.told (observed t))

-- a claim of all it observed is one of both
pub observed_both : (P : ReadOf → Type 0) (t : List Item) → All P (observed t) → All P (reads_before_writing t) × All P (values_found t)
unfolding observed reads_before_writing values_found
observed_both P [] a = (tt, tt)
observed_both P (i ∷ t) a = go (observed_both P t) i.told a
  where
    go : (All P (observed t) → All P (reads_before_writing t) × All P (values_found t)) → (w : Told)
        → All P (read_unless (dirtied t) w (and_found w (observed t))) → All P (read_unless (dirtied t) w (reads_before_writing t)) × All P (and_found w (values_found t))
    go both began a = both a
    go both (got c v) a =
        test (dirtied t c) (λ d. rw d (both (rw d at a)))
        (λ d. rw d (let b : P (record { cell = c; value = v }) × All P (observed t) = rw d at a in let o = both b.1 in ((b.0, o.0), o.1)))
    go both (put c v f) a = let o = both a.1 in (o.0, (a.0, o.1))
    go both (held c v f) a =
        test (dirtied t c) (λ d. rw d (let b : P (record { cell = c; value = f }) × All P (observed t) = rw d at a in let o = both b.1 in (o.0, (b.0, o.1))))
        (λ d. rw d
        (let b : P (record { cell = c; value = v }) × (P (record { cell = c; value = f }) × All P (observed t)) = rw d at a in
        let o = both b.1.1 in ((b.0, o.0), (b.1.0, o.1))))
    go both sealed a = both a
    go both moved a = both a
    go both ended a = both a

-- what the words say of a transaction that began at place p and has told t
abbrev pub summary : ℕ → ℕ → List Item → Txn
summary n p t =
    record {
      began = p;
      live = is_open t;
      reads = observed t;
      dirtied = dirtied t;
      held = held_in t;
      wrote = wrote t;
      value = value_written t;
      snap = snapshot t;
      moved = moves_in t;
      done = committed n t;
      commit = commit n t;
    }

-- before its seal
pub record Unsealed (t : Txn) : Type 0 where
  pub open' : t.done ≡ false
  pub moved : t.moved ≡ 0
  pub unsealed : t.snap ≡ 0

-- when something may be told: a begin of a session with no transaction open, a value got or put, a hold and a seal before the seal
abbrev pub Fits : Txn → Told → Type 0
Fits t began = t.live ≡ false
Fits t (got c v) = Unsealed t
Fits t (put c v f) = Unsealed t
Fits t (held c v f) = Unsealed t
Fits t sealed = Unsealed t
Fits t moved = Unit
Fits t ended = Unit

-- ---- the place of the m-th answer 103

-- where there is one, as many answers 103 have come
move_number-le : (m : ℕ) (t : List Item) → 0 < move_number m t → m ≤ moves_in t
unfolding move_number moves_in
move_number-le m [] h = absurd (omega arith)
move_number-le m (i ∷ t) h =
    test (moves i.told)
    (λ y. test (eqb (suc (moves_in t)) m) (λ z. rw y (let e = eqb-true (suc (moves_in t)) m z in omega arith))
    (λ z. rw y (let w = move_number-le m t (rw (y, z) at h) in omega arith)))
    (λ y. rw y (move_number-le m t (rw y at h)))

move_number-none : (m : ℕ) (t : List Item) → moves_in t < m → move_number m t ≡ 0
move_number-none m t h =
    test (ltb 0 (move_number m t)) (λ y. absurd (let w = move_number-le m t (ltb-true 0 (move_number m t) y) in omega arith))
    (λ y. let w = ltb-false 0 (move_number m t) y in omega arith)

-- ---- one thing more told

pub build : (p : ℕ) (l : Bool) {r r' : List ReadOf} {o o' g g' w w' : ℕ → Bool} {v v' : ℕ → ℕ} {s s' m m' : ℕ} {d d' : Bool} {c c' : ℕ}
    → r ≡ r' → o ≡ o' → g ≡ g' → w ≡ w' → v ≡ v' → s ≡ s' → m ≡ m' → d ≡ d' → c ≡ c'
    → ◌≡◌ {A = Txn} (record { began = p; live = l; reads = r; dirtied = o; held = g; wrote = w; value = v; snap = s; moved = m; done = d; commit = c })
    (record { began = p; live = l; reads = r'; dirtied = o'; held = g'; wrote = w'; value = v'; snap = s'; moved = m'; done = d'; commit = c' })
build p l a y z b e f g h i = rw (a, y, z, b, e, f, g, h, i)

module _ (n q s : ℕ) (t : List Item) where
  abbrev m : ℕ
  m = cells_written n t

  abbrev item : Told → Item
  item w = record { place = q; session = s; told = w }

  -- nothing written, sealed or moved: the commit stays
  plain_commit : (w : Told) → wrote (item w ∷ t) ≡ wrote t → seals w ≡ false → moves w ≡ false → commit n (item w ∷ t) ≡ commit n t
  unfolding commit snapshot move_number
  plain_commit w a b c =
      subst (λ (f : ℕ → Bool). cond (eqb (tally f n) 0) (snapshot (item w ∷ t)) (move_number (tally f n) (item w ∷ t)) ≡ commit n t) (sym a)
      (rw (b, c))

  -- not committed: the place is 0
  pub not_yet : committed n t ≡ false → commit n t ≡ 0
  unfolding committed
  not_yet d = let w = ltb-false 0 (commit n t) d in omega arith

  more_got : (p c v : ℕ) → is_open t ≡ true → note n q (got c v) (summary n p t) ≡ summary n p (item (got c v) ∷ t)
  unfolding observed dirtied held_in changed_in wrote value_written snapshot moves_in committed
  more_got p c v o =
      let e = plain_commit (got c v) (fun_ext (λ d. refl)) refl refl in
      rw o (build p true refl (fun_ext (λ d. refl)) (fun_ext (λ d. refl)) (fun_ext (λ d. refl)) (fun_ext (λ d. refl)) refl refl (sym (ap (ltb 0) e)) (sym e))

  more_began : (p : ℕ) → is_open t ≡ true → note n q began (summary n p t) ≡ summary n p (item began ∷ t)
  unfolding observed dirtied held_in changed_in wrote value_written snapshot moves_in committed
  more_began p o =
      let e = plain_commit began (fun_ext (λ d. refl)) refl refl in
      rw o (build p true refl (fun_ext (λ d. refl)) (fun_ext (λ d. refl)) (fun_ext (λ d. refl)) (fun_ext (λ d. refl)) refl refl (sym (ap (ltb 0) e)) (sym e))

  more_ended : (p : ℕ) → note n q ended (summary n p t) ≡ summary n p (item ended ∷ t)
  unfolding observed dirtied held_in changed_in wrote value_written snapshot moves_in committed
  more_ended p =
      let e = plain_commit ended (fun_ext (λ d. refl)) refl refl in
      build p false refl (fun_ext (λ d. refl)) (fun_ext (λ d. refl)) (fun_ext (λ d. refl)) (fun_ext (λ d. refl)) refl refl (sym (ap (ltb 0) e)) (sym e)

  -- before the seal nothing written is committed
  early_commit : (w : Told) (p : ℕ) → seals w ≡ false → moves w ≡ false → Unsealed (summary n p t) → commit n (item w ∷ t) ≡ 0
  unfolding commit snapshot move_number
  early_commit w p a b u =
      let k = cells_written n (item w ∷ t) in
      rw (a, b)
      (split (λ (z : ℕ). z ≡ 0) (eqb k 0) (λ _. u.unsealed)
      (λ y. move_number-none k t (let e = eqb-false k 0 y in omega (arith, u.moved))))

  more_put : (p c v f : ℕ) → is_open t ≡ true → Unsealed (summary n p t) → note n q (put c v f) (summary n p t) ≡ summary n p (item (put c v f) ∷ t)
  unfolding observed dirtied held_in changed_in wrote value_written snapshot moves_in upd committed
  more_put p c v f o u =
      let e = early_commit (put c v f) p refl refl u in
      rw o
      (build p true refl
      (fun_ext (λ d. same d c (λ x. rw (x, eq-eqb c c refl)) (λ x. rw (ne_eqb d c x, ne_eqb c d (λ y. x (sym y))))))
      (fun_ext (λ d. refl))
      (fun_ext (λ d. same d c (λ x. rw (x, eq-eqb c c refl)) (λ x. rw (ne_eqb d c x, ne_eqb c d (λ y. x (sym y))))))
      (fun_ext (λ d. same d c (λ x. rw (x, eq-eqb c c refl)) (λ x. rw (ne_eqb d c x, ne_eqb c d (λ y. x (sym y))))))
      refl refl (u.open' ∙ sym (ap (ltb 0) e)) (not_yet u.open' ∙ sym e))

  more_held : (p c v f : ℕ) → is_open t ≡ true → Unsealed (summary n p t) → note n q (held c v f) (summary n p t) ≡ summary n p (item (held c v f) ∷ t)
  unfolding observed dirtied held_in changed_in wrote value_written snapshot moves_in upd committed
  more_held p c v f o u =
      let e = early_commit (held c v f) p refl refl u in
      rw o
      (build p true refl
      (fun_ext (λ d. refl))
      (fun_ext (λ d. same d c (λ x. rw (x, eq-eqb c c refl)) (λ x. rw (ne_eqb d c x, ne_eqb c d (λ y. x (sym y))))))
      (fun_ext (λ d. same d c (λ x. rw (x, eq-eqb c c refl)) (λ x. rw (ne_eqb d c x, ne_eqb c d (λ y. x (sym y))))))
      (fun_ext (λ d. same d c (λ x. rw (x, eq-eqb c c refl) (test (dirtied t c) (λ y. rw y) (λ y. rw y))) (λ x. rw (ne_eqb d c x, ne_eqb c d (λ y. x (sym y))))))
      refl refl (u.open' ∙ sym (ap (ltb 0) e)) (not_yet u.open' ∙ sym e))

  seal_commit : (p : ℕ) → Unsealed (summary n p t) → commit n (item sealed ∷ t) ≡ cond (eqb (cells_written n t) 0) q 0
  unfolding commit snapshot move_number wrote
  seal_commit p u =
      let w : wrote (item sealed ∷ t) ≡ wrote t = fun_ext (λ d. unfold held_in changed_in wrote in refl) in
      rw w (test (eqb m 0) (λ y. rw y) (λ y. rw y (move_number-none m t (let e = eqb-false m 0 y in omega (arith, u.moved)))))

  more_sealed : (p : ℕ) → is_open t ≡ true → 0 < q → Unsealed (summary n p t) → note n q sealed (summary n p t) ≡ summary n p (item sealed ∷ t)
  unfolding observed dirtied held_in changed_in wrote value_written snapshot moves_in committed
  more_sealed p o l u =
      let e = seal_commit p u in
      rw o
      (build p true refl (fun_ext (λ d. refl)) (fun_ext (λ d. refl)) (fun_ext (λ d. refl)) (fun_ext (λ d. refl)) refl refl
      (test (eqb m 0) (λ y. rw (e, y) (sym (lt-ltb 0 q l))) (λ y. rw (e, y))) (sym e))

  -- an answer 103 more
  move_commit : commit n (item moved ∷ t) ≡ cond (committed n t) (commit n t) (cond (eqb (suc (moves_in t)) (cells_written n t)) q 0)
  unfolding committed commit snapshot move_number wrote
  move_commit =
      let w : wrote (item moved ∷ t) ≡ wrote t = fun_ext (λ d. unfold held_in changed_in wrote in refl) in
      rw w
      (test (eqb m 0)
      (λ y. rw (y, ne_eqb (suc (moves_in t)) m (λ e. let z = eqb-true m 0 y in omega arith))
      (test (ltb 0 (snapshot t)) (λ z. rw z) (λ z. rw z (let k = ltb-false 0 (snapshot t) z in omega arith))))
      (λ y. rw y
      (test (ltb 0 (move_number m t))
      (λ z. rw (z, ne_eqb (suc (moves_in t)) m (λ e. let k = move_number-le m t (ltb-true 0 (move_number m t) z) in omega arith)))
      (λ z. rw z (let k : move_number m t ≡ 0 = let k = ltb-false 0 (move_number m t) z in omega arith in rw k)))))

  more_moved : (p : ℕ) → is_open t ≡ true → 0 < q → note n q moved (summary n p t) ≡ summary n p (item moved ∷ t)
  unfolding observed dirtied held_in changed_in wrote value_written snapshot moves_in committed
  more_moved p o l =
      let e = move_commit in
      rw o
      (build p true refl (fun_ext (λ d. refl)) (fun_ext (λ d. refl)) (fun_ext (λ d. refl)) (fun_ext (λ d. refl)) refl refl
      (test (committed n t) (λ d. rw (e, d) (sym d)) (λ d. rw (e, d) (test (eqb (suc (moves_in t)) m) (λ y. rw y (sym (lt-ltb 0 q l))) (λ y. rw y))))
      (sym e))

  pub more : (p : ℕ) (w : Told) → is_open t ≡ true → 0 < q → (begins w ≡ false → Fits (summary n p t) w) → note n q w (summary n p t) ≡ summary n p (record { place = q; session = s; told = w } ∷ t)
  more p began o l f = more_began p o
  more p (got c v) o l f = more_got p c v o
  more p (put c v g) o l f = more_put p c v g o (f refl)
  more p (held c v g) o l f = more_held p c v g o (f refl)
  more p sealed o l f = more_sealed p o l (f refl)
  more p moved o l f = more_moved p o l
  more p ended o l f = more_ended p

-- ---- nothing told, and a begin alone

pub empty_commit : (n : ℕ) → commit n [] ≡ 0
unfolding commit snapshot move_number
empty_commit n = split (λ (z : ℕ). z ≡ 0) (eqb (cells_written n []) 0) (λ _. refl) (λ _. refl)

pub empty_committed : (n : ℕ) → committed n [] ≡ false
unfolding committed
empty_committed n = ap (ltb 0) (empty_commit n)

pub alone : (n q s : ℕ) → opened q ≡ summary n q (record { place = q; session = s; told = began } ∷ [])
unfolding observed dirtied held_in changed_in wrote value_written snapshot moves_in committed
alone n q s =
    let e = plain_commit n q s [] began (fun_ext (λ d. refl)) refl refl ∙ empty_commit n in
    build q true refl (fun_ext (λ d. refl)) (fun_ext (λ d. refl)) (fun_ext (λ d. refl)) (fun_ext (λ d. refl)) refl refl (sym (ap (ltb 0) e)) (sym e)

-- ---- what counts of a committed transaction does not change

pub record Same (t u : Txn) : Type 0 where
  pub done : u.done ≡ t.done
  pub commit : u.commit ≡ t.commit
  pub snap : u.snap ≡ t.snap
  pub reads : u.reads ≡ t.reads
  pub wrote : u.wrote ≡ t.wrote
  pub value : u.value ≡ t.value

pub settled : (n q : ℕ) (w : Told) (t : Txn) → t.done ≡ true → Fits t w → Same t (note n q w t)
settled n q began t d f = record { done = refl; commit = refl; snap = refl; reads = refl; wrote = refl; value = refl }
settled n q (got c v) t d f = absurd (clash t.done d f.open')
settled n q (put c v g) t d f = absurd (clash t.done d f.open')
settled n q (held c v g) t d f = absurd (clash t.done d f.open')
settled n q sealed t d f = absurd (clash t.done d f.open')
settled n q moved t d f = record { done = rw d; commit = rw d; snap = refl; reads = refl; wrote = refl; value = refl }
settled n q ended t d f = record { done = refl; commit = refl; snap = refl; reads = refl; wrote = refl; value = refl }

-- a write is told before the seal
pub fits_early : (w : Told) (t : Txn) → Fits t w → (c : ℕ) → writes w c ≡ true → t.snap ≡ 0
fits_early began t f c y = absurd (clash false y refl)
fits_early (got d v) t f c y = absurd (clash false y refl)
fits_early (put d v g) t f c y = f.unsealed
fits_early (held d v g) t f c y = absurd (clash false y refl)
fits_early sealed t f c y = absurd (clash false y refl)
fits_early moved t f c y = absurd (clash false y refl)
fits_early ended t f c y = absurd (clash false y refl)

-- each of its writes is
abbrev pub Early : List Item → Type 0
Early [] = Unit
Early (i ∷ t) = ((c : ℕ) → writes i.told c ≡ true → snapshot t ≡ 0) × Early t

-- a transaction that commits now commits at this place
pub commits_here : (n q : ℕ) (w : Told) (t : Txn) → t.done ≡ false → (note n q w t).done ≡ true → (note n q w t).commit ≡ q
commits_here n q began t x y = absurd (clash t.done y x)
commits_here n q (got c v) t x y = absurd (clash t.done y x)
commits_here n q (put c v f) t x y = absurd (clash t.done y x)
commits_here n q (held c v f) t x y = absurd (clash t.done y x)
commits_here n q sealed t x y = rw y
commits_here n q moved t x y = rw x (rw (rw x at y))
commits_here n q ended t x y = absurd (clash t.done y x)
