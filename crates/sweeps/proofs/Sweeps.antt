-- What the sweeps do to the locks, entry by entry. A session that withdraws from a cell changes three lists at one place. Sealing passes over a
-- cell that an entry before it published, where the model's sweep may leave it once more: leaving twice is leaving once.
use Prim.Native.Nat.{ℕ, suc, ◌+◌, ◌/◌, ◌%◌, ◌<◌, ◌≤◌}
use mathlib.Core.Bool.{Bool, true, false, not}
use mathlib.Core.List.{List}
use mathlib.Core.Path.{◌≡◌, refl, sym, ap, ◌∙◌}
use native.Mathlib.Numerals.{add-one}
use native.Mathlib.Omega.{arith}
use lib.ListN.{length, get_or, set, length-set, replicate, get_or-replicate, get_or-eq_default}
use lib.Seq.{get_or-set_same, set-get_or}
use borrow.Author.Tests.{eq-eqb, ne_eqb}
use Rattle.model.specs.Buffers.{Locks, cell_at, entry_at, slot_in, look_in, publishes, publishes_in, lock_at, set_lock, on_lock, sweep, leave, vacate, withdraw}
use Rattle.model.specs.Effects.{rolled_back}
use Rattle.model.specs.Readers.{without_reader}
use Rattle.model.specs.Search.{some?, or_else, find}
use Rattle.records.specs.declared.Lock.{Lock}
use Rattle.model.proofs.Laws.{Long, lock_sweep, leave_leave}
use Rattle.model.proofs.Tools.{same, test, which, clash, or_else-none}
use Rattle.session_log.proofs.Searches.{find_here, find_up}
use Rattle.session_log.proofs.Targets.{first_judges, written_first, slot_some}
use Rattle.contracts.specs.Lent.{locks_of}
use Rattle.sweeps.specs.Sweeps.{DroppedSoFar, NonePublished, marked, mark, dropped_written, dropped_at}
use Rattle.lock.proofs.Digits.{no_member}
use Rattle.sweeps.proofs.Marks.{marked_same, marked_other}

-- ---- one lock

-- within a list the default does not matter
get_or_any : (l : List ℕ) (i d e : ℕ) → i < length l → get_or l i d ≡ get_or l i e
get_or_any l i d e h = sym (get_or-set_same l i (get_or l i d) e h) ∙ ap (λ (k : List ℕ). get_or k i e) (set-get_or l i d)

pub leave_on : (R C E : List ℕ) (c s : ℕ) → locks_of (set R c (without_reader s (get_or R c 0))) C E ≡ on_lock c (leave s) (locks_of R C E)
unfolding on_lock lock_at set_lock leave
leave_on R C E c s = rw (set-get_or C c 16, set-get_or E c 0)

module _ (R C E : List ℕ) (c : ℕ) (eC : length C ≡ length R) (eE : length E ≡ length R) where
  pub lock_past : length R ≤ c → record { readers = 0; claimant = 16; exclusive = 0 } ≡ lock_at (locks_of R C E) c
  unfolding lock_at
  lock_past h = rw (get_or-eq_default R 0 h, get_or-eq_default C 16 {n = c} (omega arith), get_or-eq_default E 0 {n = c} (omega arith))

  module _ (h : c < length R) where
    pub lock_here : record { readers = get_or R c 0; claimant = get_or C c 0; exclusive = get_or E c 0 } ≡ lock_at (locks_of R C E) c
    unfolding lock_at
    lock_here = rw (get_or_any C c 0 16 (omega arith))

    pub withdraw_own : (s : ℕ) → get_or C c 0 ≡ s
        → locks_of (set R c (without_reader s (get_or R c 0))) (set C c 16) (set E c 0) ≡ on_lock c (withdraw s) (locks_of R C E)
    unfolding on_lock lock_at set_lock withdraw vacate
    withdraw_own s e = rw (eq-eqb (get_or C c 16) s (get_or_any C c 16 0 (omega arith) ∙ e))

    pub withdraw_other : (s : ℕ) → (get_or C c 0 ≡ s → ⊥)
        → locks_of (set R c (without_reader s (get_or R c 0))) C E ≡ on_lock c (withdraw s) (locks_of R C E)
    unfolding on_lock lock_at withdraw
    withdraw_other s n = rw (ne_eqb (get_or C c 16) s (λ e. n (get_or_any C c 0 16 (omega arith) ∙ e))) (leave_on R C E c s)

-- a lock changed leaves as many
pub as_many : (c : ℕ) (f : Lock → Lock) (L : Locks) → length (on_lock c f L).readers ≡ length L.readers
unfolding on_lock set_lock
as_many c f L = length-set L.readers c _

-- the lock that is there, put again
put_same : (c : ℕ) (L : Locks) → set_lock c (lock_at L c) L ≡ L
unfolding set_lock lock_at
put_same c L =
    λ i. record {
      readers = set-get_or L.readers c 0 i;
      claimants = set-get_or L.claimants c 16 i;
      exclusives = set-get_or L.exclusives c 0 i;
    }

-- ---- rolling back

module _ (log : List ℕ) (s : ℕ) (L : Locks) where
  pub roll_start : L ≡ rolled_back log 0 s L
  unfolding rolled_back sweep
  roll_start = refl

  pub roll_more : (i c : ℕ) (K M : Locks) → c ≡ cell_at log i → K ≡ rolled_back log i s L → M ≡ on_lock c (withdraw s) K
      → M ≡ rolled_back log (i + 1) s L
  unfolding rolled_back sweep
  roll_more i c K M e k m = rw (add-one, m, k, e)

-- ---- the cells marked

-- before entry i: cells of entries before it, and each of those that its first entry publishes
pub record Marks (log : List ℕ) (i : ℕ) (written : List ℕ) : Type 0 where
  pub words : length written ≡ 16
  pub entered : (c : ℕ) → c < 1024 → marked written c ≡ true → some? (slot_in log i c) ≡ true
  pub published : (c : ℕ) → c < 1024 → publishes_in log i c ≡ true → marked written c ≡ true

module _ (log : List ℕ) (i : ℕ) (written : List ℕ) (inv : Marks log i written) (lt : cell_at log i < 1024) where
  slot_same : some? (slot_in log (i + 1) (cell_at log i)) ≡ true
  unfolding slot_in find or_else
  slot_same = rw (add-one, eq-eqb (cell_at log i) (cell_at log i) refl) (which (find (cell_at log) i (cell_at log i)) (λ p. rw p) (λ k p. rw p))

  slot_other : (d : ℕ) → (d ≡ cell_at log i → ⊥) → slot_in log (i + 1) d ≡ slot_in log i d
  unfolding slot_in find
  slot_other d n = rw (add-one, ne_eqb (cell_at log i) d (λ e. n (sym e)), or_else-none)

  published_other : (d : ℕ) → (d ≡ cell_at log i → ⊥) → publishes_in log (i + 1) d ≡ publishes_in log i d
  unfolding publishes_in look_in
  published_other d n = rw (slot_other d n)

  -- of the cell itself: by the entry that was its first before, or by this one
  published_same : publishes_in log (i + 1) (cell_at log i) ≡ true → (publishes_in log i (cell_at log i) ≡ true → ⊥) → publishes (entry_at log i) ≡ true
  unfolding slot_in
  published_same h n =
      let c = cell_at log i in
      which (find (cell_at log) i c)
      (λ p. sym (first_judges log (i + 1) c (rw add-one (find_here (cell_at log) c i p refl))) ∙ h)
      (λ k p. absurd (n (first_judges log i c p ∙ sym (first_judges log (i + 1) c (find_up (cell_at log) c i (i + 1) (omega arith) p)) ∙ h)))

  module _ (written' : List ℕ) (got : written' ≡ dropped_written log i written) where
    marked_kept : (d : ℕ) → (d ≡ cell_at log i → ⊥) → marked written' d ≡ marked written d
    unfolding dropped_written
    marked_kept d n =
        let w = inv.words in
        rw got (test (publishes (entry_at log i)) (λ p. rw p (marked_other written (cell_at log i) d (omega arith) n)) (λ p. rw p))

    marked_here : publishes (entry_at log i) ≡ true → marked written' (cell_at log i) ≡ true
    unfolding dropped_written
    marked_here p = let w = inv.words in rw (got, p) (marked_same written (cell_at log i) (omega arith))

    marked_still : marked written (cell_at log i) ≡ true → marked written' (cell_at log i) ≡ true
    unfolding dropped_written
    marked_still m = test (publishes (entry_at log i)) marked_here (λ p. rw (got, p) m)

    marks_words : length written' ≡ 16
    unfolding dropped_written mark
    marks_words = rw got (test (publishes (entry_at log i)) (λ p. rw (p, length-set) inv.words) (λ p. rw p inv.words))

    pub marks_more : Marks log (i + 1) written'
    marks_more =
        let c = cell_at log i in
        record {
          words = marks_words;
          entered = λ d l h. same d c (λ e. rw e slot_same) (λ n. rw (slot_other d n) (inv.entered d l (sym (marked_kept d n) ∙ h)));
          published = λ d l h.
              same d c
              (λ e.
              rw e
              (test (publishes_in log i c) (λ q. marked_still (inv.published c lt q))
              (λ q. marked_here (published_same (rw e at h) (λ r. clash (publishes_in log i c) r q)))))
              (λ n. marked_kept d n ∙ inv.published d l (sym (published_other d n) ∙ h));
        }

-- the three ways through one entry, with its cell read
module _ (log : List ℕ) (k s : ℕ) (written R : List ℕ) (c : ℕ) (e : c ≡ cell_at log k) where
  pub drop_written : publishes (entry_at log k) ≡ true → (written' : List ℕ) → written' ≡ mark written c
      → (written' ≡ dropped_written log k written) × (R ≡ dropped_at log k s written R)
  unfolding dropped_written dropped_at
  drop_written p written' got = (rw (p, ← e) got, rw p)

  module _ (p : publishes (entry_at log k) ≡ false) where
    pub drop_marked : marked written c ≡ true → (written ≡ dropped_written log k written) × (R ≡ dropped_at log k s written R)
    unfolding dropped_written dropped_at
    drop_marked t = (rw p, rw (p, ← e, t))

    pub drop_left : marked written c ≡ false → (R' : List ℕ) → R' ≡ set R c (without_reader s (get_or R c 0))
        → (written ≡ dropped_written log k written) × (R' ≡ dropped_at log k s written R)
    unfolding dropped_written dropped_at
    drop_left t R' r = (rw p, rw (p, ← e, t) r)

-- ---- sealing

-- where nothing publishes nothing is marked; before the first entry nothing is left
none_marked : (c : ℕ) → c < 1024 → marked (replicate 16 0) c ≡ false
unfolding marked
none_marked c l = rw (get_or-replicate {A = ℕ} 16 (c / 64) 0 0 (omega arith)) (no_member (c % 64))

pub marks_none : (log : List ℕ) (i : ℕ) → NonePublished log i → Marks log i (replicate 16 0)
marks_none log i n =
    record {
      words = refl;
      entered = λ c l h. absurd (clash (marked (replicate 16 0) c) h (none_marked c l));
      published = λ c l h. let w = written_first log i c h in absurd (clash (publishes (entry_at log w.0)) w.2 (n w.0 (slot_some log i c w.1).0));
    }

pub none_more : (log : List ℕ) (i : ℕ) → NonePublished log i → publishes (entry_at log i) ≡ false → NonePublished log (i + 1)
none_more log i n p j l = same j i (λ e. rw e p) (λ d. n j (omega arith))

pub drop_start : (log : List ℕ) (m s : ℕ) (R : List ℕ) → DroppedSoFar log m 0 s R R
unfolding sweep
drop_start log m s R C E p q = refl

module _ (log : List ℕ) (m i s : ℕ) (written R₀ R : List ℕ) (li : i < m) (lt : cell_at log i < 1024) (lR : cell_at log i < length R₀)
    (inv : Marks log i written) where
  -- the cell's first entry of all is this one, which then says whether the cell publishes, or one before it
  first : {P : Type 0} → (publishes_in log m (cell_at log i) ≡ publishes (entry_at log i) → P)
      → (some? (slot_in log i (cell_at log i)) ≡ true → publishes_in log m (cell_at log i) ≡ publishes_in log i (cell_at log i) → P) → P
  unfolding slot_in
  first f g =
      let c = cell_at log i in
      which (find (cell_at log) i c)
      (λ q. f (first_judges log m c (find_up (cell_at log) c (suc i) m (omega arith) (find_here (cell_at log) c i q refl))))
      (λ k q. g (rw q) (first_judges log m c (find_up (cell_at log) c i m (omega arith) q) ∙ sym (first_judges log i c q)))

  module _ (C E : List ℕ) (eC : length C ≡ length R₀) (eE : length E ≡ length R₀) where
    abbrev unpublished : ℕ → Bool
    unpublished c = not (publishes_in log m c)

    abbrev before : Locks
    before = sweep unpublished (leave s) (cell_at log) i (locks_of R₀ C E)

    abbrev after : Locks
    after = sweep unpublished (leave s) (cell_at log) (i + 1) (locks_of R₀ C E)

    sweep_keeps : publishes_in log m (cell_at log i) ≡ true → after ≡ before
    unfolding sweep
    sweep_keeps h = rw (add-one, h)

    sweep_leaves : publishes_in log m (cell_at log i) ≡ false → after ≡ on_lock (cell_at log i) (leave s) before
    unfolding sweep
    sweep_leaves h = rw (add-one, h)

    -- a cell entered before was left before
    left_before : some? (slot_in log i (cell_at log i)) ≡ true → publishes_in log m (cell_at log i) ≡ false
        → on_lock (cell_at log i) (leave s) before ≡ before
    unfolding on_lock slot_in
    left_before f h =
        let c = cell_at log i in
        let long : Long (length R₀) (locks_of R₀ C E) = record { readers = refl; claimants = eC; exclusives = eE } in
        let g : lock_at before c ≡ leave s (lock_at (locks_of R₀ C E) c) =
        lock_sweep unpublished (leave s) (cell_at log) (locks_of R₀ C E) (length R₀) long (leave_leave s) c lR i ∙ rw (f, h) in
        let k : leave s (lock_at before c) ≡ lock_at before c = rw g (leave_leave s (lock_at (locks_of R₀ C E) c)) in
        ap (λ (l : Lock). set_lock c l before) k ∙ put_same c before

    -- a cell that publishes, or was entered before, is as before
    passed : (publishes_in log m (cell_at log i) ≡ false → some? (slot_in log i (cell_at log i)) ≡ true) → before ≡ after
    passed f = test (publishes_in log m (cell_at log i)) (λ h. sym (sweep_keeps h)) (λ h. sym (sweep_leaves h ∙ left_before (f h) h))

  pub drop_more : DroppedSoFar log m i s R₀ R → (R' : List ℕ) → R' ≡ dropped_at log i s written R → DroppedSoFar log m (i + 1) s R₀ R'
  unfolding dropped_at
  drop_more w R' got C E eC eE =
      let c = cell_at log i in
      let e = w C E eC eE in
      rw got
      (test (publishes (entry_at log i))
      (λ p. rw p (e ∙ passed C E eC eE (λ h. first (λ q. absurd (clash (publishes_in log m c) (q ∙ p) h)) (λ f _. f))))
      (λ p.
      rw p
      (test (marked written c) (λ t. rw t (e ∙ passed C E eC eE (λ _. inv.entered c lt t)))
      (λ t.
      let u : publishes_in log m c ≡ false =
      first (λ q. q ∙ p)
      (λ _ q. test (publishes_in log i c) (λ h. absurd (clash (marked written c) (inv.published c lt h) t)) (λ h. q ∙ h)) in
      rw t (leave_on R C E c s ∙ ap (on_lock c (leave s)) e ∙ sym (sweep_leaves C E eC eE u))))))

-- where nothing publishes the cell is left
pub drop_unmarked : (log : List ℕ) (m i s : ℕ) (R₀ R : List ℕ) → i < m → cell_at log i < 1024 → cell_at log i < length R₀ → NonePublished log i
    → publishes (entry_at log i) ≡ false → DroppedSoFar log m i s R₀ R → (c : ℕ) → c ≡ cell_at log i → (R' : List ℕ) → R' ≡ set R c (without_reader s (get_or R c 0))
    → DroppedSoFar log m (i + 1) s R₀ R'
drop_unmarked log m i s R₀ R li lt lR n p w c e R' r =
    drop_more log m i s (replicate 16 0) R₀ R li lt lR (marks_none log i n) w R'
    (drop_left log i s (replicate 16 0) R c e p (rw e (none_marked (cell_at log i) lt)) R' r).1
