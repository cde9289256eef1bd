-- The target of an advance. The lowest cell among entries judged each by itself is not above the model's target, whose first entry publishes;
-- so if that cell's first entry publishes it is the target, and if not the target is above it. And there is a target at all exactly where
-- some entry publishes and is the first of its cell.
use Prim.Native.Nat.{ℕ, zero, suc, ◌+◌, ◌<◌, ◌≤◌}
use mathlib.Core.Bool.{Bool, true, false, not, ◌&&◌}
use mathlib.Core.List.{List}
use mathlib.Core.Option.{none, some}
use mathlib.Core.Path.{◌≡◌, refl, sym, ap, ◌∙◌, subst}
use native.Mathlib.Numerals.{add-one}
use native.Mathlib.Omega.{arith}
use lib.Dec.{ltb, leb}
use borrow.Author.Tests.{lt-ltb, le-ltb, le-leb, lt-leb, leb-true, leb-false, ltb-true, ltb-false}
use Rattle.model.specs.Buffers.{cell_at, entry_at, entry_of, slot_in, look_in, publishes, publishes_in, target_in}
use Rattle.model.specs.Search.{some?, lowest, below}
use Rattle.model.proofs.Laws.{find_some, find_none, Low, lowest_is, below_is}
use Rattle.model.proofs.Tools.{same, split, test, which, nothing, clash, both_l, both_r, and-false}
use Rattle.session_log.specs.Slots.{better, lowest_publishing, slot_of, target_slot, first_publishes}
use Rattle.session_log.proofs.Searches.{find_here, find_up, find_before}

module _ (log : List ℕ) where
  -- ---- a cell publishes where its first entry does

  pub first_judges : (m c : ℕ) {k : ℕ} → slot_in log m c ≡ some k → publishes_in log m c ≡ publishes (entry_at log k)
  unfolding publishes_in look_in entry_of
  first_judges m c e = rw e

  pub written_first : (m c : ℕ) → publishes_in log m c ≡ true → (k : ℕ) × (slot_in log m c ≡ some k) × (publishes (entry_at log k) ≡ true)
  unfolding publishes_in look_in entry_of
  written_first m c h = which (slot_in log m c) (λ p. absurd (clash false (rw p at h) refl)) (λ k p. (k, p, rw p at h))

  pub slot_some : (m c : ℕ) {k : ℕ} → slot_in log m c ≡ some k → (k < m) × (cell_at log k ≡ c)
  unfolding slot_in
  slot_some m c e = find_some (cell_at log) c m e

  pub slot_none : (m c : ℕ) → slot_in log m c ≡ none → (j : ℕ) → j < m → cell_at log j ≡ c → ⊥
  unfolding slot_in
  slot_none m c e = find_none (cell_at log) c m e

  -- ---- the lowest cell of entries judged each by itself

  pub record LowestPublishing (n from k r : ℕ) : Type 0 where
    pub least : (j : ℕ) → j < k → from ≤ cell_at log j → publishes (entry_at log j) ≡ true → r ≤ cell_at log j
    pub place : r < n → (j : ℕ) × (j < k) × (cell_at log j ≡ r) × (from ≤ r) × (publishes (entry_at log j) ≡ true)
    pub most : r ≤ n

  publishing_step : (n from k best : ℕ) → LowestPublishing n from k best → LowestPublishing n from (suc k) (better log from k best)
  unfolding better
  publishing_step n from k best w =
      let c = cell_at log k in
      let p = publishes (entry_at log k) in
      split (LowestPublishing n from (suc k)) (leb from c && (ltb c best && p))
      (λ t.
      let u = leb-true from c (both_l (leb from c) (ltb c best && p) t) in
      let y = both_r (leb from c) (ltb c best && p) t in
      let v = ltb-true c best (both_l (ltb c best) p y) in
      record {
        least = λ j l f o. same j k (λ e. rw e (omega arith)) (λ d. omega (arith, w.least j (omega arith) f o));
        place = λ l. (k, omega arith, refl, u, both_r (ltb c best) p y);
        most = omega (arith, w.most);
      })
      (λ t.
      record {
        least = λ j l f o. same j k
            (λ e.
            test (ltb c best)
            (λ q. let f' : from ≤ c = rw e at f in let o' : p ≡ true = rw e at o in absurd (clash true refl (simp (le-leb from c f', q, o') at t)))
            (λ q. rw e (ltb-false c best q)))
            (λ d. w.least j (omega arith) f o);
        place = λ l. let h = w.place l in (h.0, omega (arith, h.1), h.2, h.3, h.4);
        most = w.most;
      })

  pub lowest_publishing_lem : (n from k : ℕ) → LowestPublishing n from k (lowest_publishing log n from k)
  unfolding lowest_publishing
  lowest_publishing_lem n from zero = record { least = λ j l f o. absurd (omega arith); place = λ l. absurd (omega arith); most = omega arith }
  lowest_publishing_lem n from (suc k) = publishing_step n from k (lowest_publishing log n from k) (lowest_publishing_lem n from k)

  -- the four ways through one entry, with its cell read
  module _ (from i best c : ℕ) (e : c ≡ cell_at log i) where
    pub lower_before : c < from → best ≡ better log from i best
    unfolding better
    lower_before h = rw (← e, lt-leb from c h)

    pub lower_above : best ≤ c → best ≡ better log from i best
    unfolding better
    lower_above h = rw (← e, le-ltb c best h, and-false)

    pub lower_here : from ≤ c → c < best → publishes (entry_at log i) ≡ true → c ≡ better log from i best
    unfolding better
    lower_here f h p = rw (← e, le-leb from c f, lt-ltb c best h, p)

    pub lower_unpublished : publishes (entry_at log i) ≡ false → best ≡ better log from i best
    unfolding better
    lower_unpublished p = rw (← e, p, and-false, and-false)

  pub publishing_more : (n from k : ℕ) → better log from k (lowest_publishing log n from k) ≡ lowest_publishing log n from (k + 1)
  unfolding lowest_publishing
  publishing_more n from k = rw add-one

  -- ---- the model's target

  abbrev fit : ℕ → ℕ → ℕ → Bool
  fit m from c = leb from c && publishes_in log m c

  target_is : (m from : ℕ) → Low (fit m from) (cell_at log) m (target_in log m from)
  unfolding target_in
  target_is m from = lowest_is (fit m from) (cell_at log) m

  -- a target is a cell that publishes, not below the start, and no such cell is lower
  pub target_some : (m from : ℕ) {c : ℕ} → target_in log m from ≡ some c
      → (from ≤ c) × (publishes_in log m c ≡ true) × ((d : ℕ) → from ≤ d → publishes_in log m d ≡ true → c ≤ d)
  target_some m from {c} e =
      let w = subst (Low (fit m from) (cell_at log) m) e (target_is m from) in (
        leb-true from c (both_l (leb from c) (publishes_in log m c) w.fits),
        both_r (leb from c) (publishes_in log m c) w.fits,
        λ d l p.
            let k = written_first m d p in
            let s = slot_some m d k.1 in
            rw s.1 at (w.least k.0 s.0 (rw s.1 (simp (le-leb from d l, p)))),
      )

  -- where there is none, no cell not below the start publishes
  pub target_none : (m from : ℕ) → target_in log m from ≡ none → (d : ℕ) → from ≤ d → publishes_in log m d ≡ true → ⊥
  target_none m from e d l p =
      let w = subst (Low (fit m from) (cell_at log) m) e (target_is m from) in
      let k = written_first m d p in
      let s = slot_some m d k.1 in
      clash (fit m from d) (simp (le-leb from d l, p)) (rw s.1 at (w k.0 s.0))

  -- a start may be raised past cells that do not publish
  target_later : (m from next : ℕ) → from ≤ next → ((d : ℕ) → from ≤ d → d < next → publishes_in log m d ≡ true → ⊥)
      → target_in log m from ≡ target_in log m next
  unfolding target_in
  target_later m from next l h =
      let fits : (d : ℕ) → fit m from d ≡ fit m next d = λ d.
      test (leb next d)
      (λ t. let u = leb-true next d t in simp (le-leb from d (omega arith), t))
      (λ t.
      test (fit m from d)
      (λ f.
      absurd (h d (leb-true from d (both_l (leb from d) (publishes_in log m d) f)) (leb-false next d t)
      (both_r (leb from d) (publishes_in log m d) f)))
      (λ f. f ∙ sym (simp t))) in
      λ i. lowest (λ d. fits d i) (cell_at log) m

  -- ---- one turn of the search

  module _ (n m from r : ℕ) (is : r ≡ lowest_publishing log n from m) where
    pub lowest_r : LowestPublishing n from m r
    lowest_r = rw is (lowest_publishing_lem n from m)

    -- the lowest cell is not above one that publishes
    publishing_least : (d : ℕ) → from ≤ d → publishes_in log m d ≡ true → r ≤ d
    publishing_least d l p =
        let k = written_first m d p in
        let s = slot_some m d k.1 in
        rw s.1 at (lowest_r.least k.0 s.0 (rw s.1 l) k.2)

    pub turn_ends : below n (cell_at log) m ≡ true → n ≤ r → none ≡ target_slot log m from
    unfolding target_slot slot_of
    turn_ends b h =
        which (target_in log m from) (λ e. rw e)
        (λ c e.
        let t = target_some m from e in
        let k = written_first m c t.1 in
        let s = slot_some m c k.1 in
        absurd (omega (arith, publishing_least c t.0 t.1, below_is n (cell_at log) m b k.0 s.0, s.1)))

    -- the cell found is not below the start; it is the target where its first entry publishes, and where that does not the target is above it
    module _ (lt : r < n) where
      pub turn_from : from ≤ r
      turn_from = (lowest_r.place lt).3

      pub turn_here : {k : ℕ} → some k ≡ slot_in log m r → publishes (entry_at log k) ≡ true → some k ≡ target_slot log m from
      unfolding target_slot slot_of
      turn_here f p =
          let w = first_judges m r (sym f) ∙ p in
          which (target_in log m from) (λ e. absurd (target_none m from e r turn_from w))
          (λ c e.
          let t = target_some m from e in
          let q : r ≡ c = omega (arith, publishing_least c t.0 t.1, t.2 r turn_from w) in
          rw (e, ← q) f)

      pub turn_next : publishes_in log m r ≡ false → target_slot log m from ≡ target_slot log m (r + 1)
      unfolding target_slot
      turn_next p =
          ap (slot_of log m)
          (target_later m from (r + 1) (omega (arith, turn_from))
          (λ d a b w.
          let q : d ≡ r = omega (arith, publishing_least d a w) in
          clash (publishes_in log m r) (rw q at w) p))

  -- the place of a target is one of the entries
  pub target_inside : (m from : ℕ) {k : ℕ} → some k ≡ target_slot log m from → k < m
  unfolding target_slot slot_of
  target_inside m from h =
      which (target_in log m from) (λ e. nothing (sym (rw e at h))) (λ c e. (slot_some m c (sym (rw e at h))).0)

  -- a cell that no entry has publishes nothing
  pub unheld : (m c : ℕ) → none ≡ slot_in log m c → publishes_in log m c ≡ false
  unfolding publishes_in look_in entry_of
  unheld m c h = rw (← h)

  -- ---- whether there is a target

  module _ (m from : ℕ) where
    pub any_here : (i : ℕ) → i < m → first_publishes log i from ≡ true → true ≡ some? (target_in log m from)
    unfolding first_publishes slot_in
    any_here i l h =
        let c = cell_at log i in
        let p = publishes (entry_at log i) in
        let a = both_l (leb from c && p) (not (some? (slot_in log i c))) h in
        let b = both_r (leb from c && p) (not (some? (slot_in log i c))) h in
        which (slot_in log i c)
        (λ e.
        let s = find_up (cell_at log) c (suc i) m (omega arith) (find_here (cell_at log) c i e refl) in
        which (target_in log m from) (λ t. absurd (target_none m from t c (leb-true from c (both_l (leb from c) p a)) (first_judges m c s ∙ both_r (leb from c) p a))) (λ d t. rw t))
        (λ k e. absurd (clash false (rw e at b) refl))

    pub any_nowhere : ((j : ℕ) → j < m → first_publishes log j from ≡ false) → false ≡ some? (target_in log m from)
    unfolding first_publishes slot_in
    any_nowhere h =
        which (target_in log m from) (λ t. rw t)
        (λ c t.
        let g = target_some m from t in
        let k = written_first m c g.1 in
        let s = slot_some m c k.1 in
        let b = find_before (cell_at log) c m k.1 in
        absurd (clash true refl (simp (s.1, b, k.2, le-leb from c g.0) at (h k.0 s.0))))
