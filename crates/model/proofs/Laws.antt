-- What the definitions over the buffers do: entries, the lowest cell, a sweep over the locks, the log's words.
use Prim.Native.Nat.{ℕ, zero, suc, ◌+◌, ◌*◌, ◌/◌, ◌%◌, ◌-◌, ◌≤◌, ◌<◌}
use native.Mathlib.Omega.{arith}
use native.Mathlib.Nat.{zero-add, add-zero}
use mathlib.Core.Path.{◌≡◌, refl, sym, ◌∙◌, ap, subst}
use mathlib.Core.Bool.{Bool, true, false, cond, ◌&&◌}
use mathlib.Core.Option.{Option, none, some}
use mathlib.Core.List.{List, [], ◌∷◌, ◌++◌}
use lib.Dec.{ltb, eqb}
use lib.ListN.{length, get_or, set, take, drop, length-set, length-append, length-drop, take-append-drop}
use lib.Seq.{sets, set-get_or, get_or-set_same, get_or-set_other, length-take-le, take-append_seam, drop-append_seam, take-append-le, drop-append-le, drop-append-add}
use borrow.Author.Tests.{eqb-true, eq-eqb, ne_eqb, lt-ltb, ltb-true, ltb-false}
use Rattle.records.specs.declared.Session.{Session}
use Rattle.records.specs.declared.Sessions.{Sessions}
use Rattle.records.specs.declared.Lock.{Lock}
use Rattle.model.specs.Buffers.{Locks, idle, session_at, with_session, log_in, on_log, word, cell_at, entry_at, slot_in, entry_of, look_in, appended, with_dirty, with_held, marked, lock_at, set_lock, on_lock, sweep, leave, vacate, withdraw}
use Rattle.model.specs.Readers.{odd, assign}
use Rattle.model.specs.Search.{some?, or_else, find, lower, lowest, below, tally}
use Rattle.model.proofs.Tools.{same, split, test, which, nothing, clash, both_l, both_r, and-false, or_else-none, half_assign}

-- ---- find

module _ (f : ℕ → ℕ) (c : ℕ) where
  pub find_some : (k : ℕ) {i : ℕ} → find f k c ≡ some i → (i < k) × (f i ≡ c)
  unfolding find or_else
  find_some zero {i} e = nothing e
  find_some (suc k) {i} e =
      which (find f k c)
      (λ p. test (eqb (f k) c) (λ q. let r : ◌≡◌ {A = Option ℕ} (some k) (some i) = rw (p, q) at e in let w : k ≡ i = cc in (omega arith, rw (← w) (eqb-true (f k) c q)))
      (λ q. nothing (rw (p, q) at e)))
      (λ j p. let w = find_some k p in let r : ◌≡◌ {A = Option ℕ} (some j) (some i) = rw p at e in let u : j ≡ i = cc in (omega arith, rw (← u) w.1))

  pub find_none : (k : ℕ) → find f k c ≡ none → (j : ℕ) → j < k → f j ≡ c → ⊥
  unfolding find or_else
  find_none zero e j l h = omega arith
  find_none (suc k) e j l h =
      which (find f k c)
      (λ p. same j k (λ w. nothing (sym (rw (p, eq-eqb (f k) c (ap f (sym w) ∙ h)) at e))) (λ n. find_none k p j (omega arith) h))
      (λ i p. nothing (sym (rw p at e)))

  pub find_ext : (g : ℕ → ℕ) (k : ℕ) → ((j : ℕ) → j < k → f j ≡ g j) → find f k c ≡ find g k c
  unfolding find or_else
  find_ext g zero h = refl
  find_ext g (suc k) h = rw (find_ext g k (λ j l. h j (omega arith)), h k (omega arith))

-- ---- the lowest cell that passes a test

module _ (fit : ℕ → Bool) (cell : ℕ → ℕ) where
  pub record Lowest (k c : ℕ) : Type 0 where
    pub fits : fit c ≡ true
    pub place : (j : ℕ) × (j < k) × (cell j ≡ c)
    pub least : (j : ℕ) → j < k → fit (cell j) ≡ true → c ≤ cell j

  abbrev pub Low : ℕ → Option ℕ → Type 0
  Low k none = (j : ℕ) → j < k → fit (cell j) ≡ false
  Low k (some c) = Lowest k c

  low_skip : (k : ℕ) (o : Option ℕ) → fit (cell k) ≡ false → Low k o → Low (suc k) o
  low_skip k none h w = λ j l. same j k (λ e. rw e h) (λ n. w j (omega arith))
  low_skip k (some c) h w =
      record {
        fits = w.fits;
        place = (w.place.0, omega (arith, w.place.1), w.place.2);
        least = λ j l q. same j k (λ e. absurd (clash (fit (cell k)) (rw e at q) h)) (λ n. w.least j (omega arith) q);
      }

  low_take : (k : ℕ) (o : Option ℕ) → fit (cell k) ≡ true → Low k o → Low (suc k) (lower o (cell k))
  unfolding lower
  low_take k none h w =
      record {
        fits = h;
        place = (k, omega arith, refl);
        least = λ j l q. same j k (λ e. rw e (omega arith)) (λ n. absurd (clash (fit (cell j)) q (w j (omega arith))));
      }
  low_take k (some c) h w =
      split (Low (suc k)) (ltb (cell k) c)
      (λ t.
      let u = ltb-true (cell k) c t in
      record {
        fits = h;
        place = (k, omega arith, refl);
        least = λ j l q. same j k (λ e. rw e (omega arith)) (λ n. omega (arith, w.least j (omega arith) q));
      })
      (λ t.
      let u = ltb-false (cell k) c t in
      record {
        fits = w.fits;
        place = (w.place.0, omega (arith, w.place.1), w.place.2);
        least = λ j l q. same j k (λ e. rw e u) (λ n. w.least j (omega arith) q);
      })

  pub lowest_is : (k : ℕ) → Low k (lowest fit cell k)
  unfolding lowest
  lowest_is zero = λ j l. absurd (omega arith)
  lowest_is (suc k) =
      split (Low (suc k)) (fit (cell k)) (λ h. low_take k (lowest fit cell k) h (lowest_is k)) (λ h. low_skip k (lowest fit cell k) h (lowest_is k))

pub below_is : (n : ℕ) (cell : ℕ → ℕ) (k : ℕ) → below n cell k ≡ true → (j : ℕ) → j < k → cell j < n
unfolding below
below_is n cell zero h j l = absurd (omega arith)
below_is n cell (suc k) h j l =
    same j k (λ e. rw e (ltb-true (cell k) n (both_l (ltb (cell k) n) (below n cell k) h)))
    (λ ne. below_is n cell k (both_r (ltb (cell k) n) (below n cell k) h) j (omega arith))

pub below_ext : (n : ℕ) (f g : ℕ → ℕ) (k : ℕ) → ((j : ℕ) → j < k → f j ≡ g j) → below n f k ≡ below n g k
unfolding below
below_ext n f g zero h = refl
below_ext n f g (suc k) h = rw (h k (omega arith), below_ext n f g k (λ j l. h j (omega arith)))

-- ---- locks

pub record Long (n : ℕ) (L : Locks) : Type 0 where
  pub readers : length L.readers ≡ n
  pub claimants : length L.claimants ≡ n
  pub exclusives : length L.exclusives ≡ n

pub lock_same : (n c : ℕ) (l : Lock) (L : Locks) → Long n L → c < n → lock_at (set_lock c l L) c ≡ l
unfolding lock_at set_lock
lock_same n c l L w h =
    λ i. record {
      readers = get_or-set_same L.readers c l.readers 0 (omega (arith, w.readers)) i;
      claimant = get_or-set_same L.claimants c l.claimant 16 (omega (arith, w.claimants)) i;
      exclusive = get_or-set_same L.exclusives c l.exclusive 0 (omega (arith, w.exclusives)) i;
    }

pub lock_other : (c d : ℕ) (l : Lock) (L : Locks) → (d ≡ c → ⊥) → lock_at (set_lock c l L) d ≡ lock_at L d
unfolding lock_at set_lock
lock_other c d l L h =
    λ i. record {
      readers = get_or-set_other L.readers c d l.readers 0 h i;
      claimant = get_or-set_other L.claimants c d l.claimant 16 h i;
      exclusive = get_or-set_other L.exclusives c d l.exclusive 0 h i;
    }

pub long_set : (n c : ℕ) (l : Lock) (L : Locks) → Long n L → Long n (set_lock c l L)
unfolding set_lock
long_set n c l L w =
    record {
      readers = length-set L.readers c l.readers ∙ w.readers;
      claimants = length-set L.claimants c l.claimant ∙ w.claimants;
      exclusives = length-set L.exclusives c l.exclusive ∙ w.exclusives;
    }

module _ (at : ℕ → Bool) (f : Lock → Lock) (cell : ℕ → ℕ) (L : Locks) (n : ℕ) (w : Long n L) where
  pub long_sweep : (k : ℕ) → Long n (sweep at f cell k L)
  unfolding sweep on_lock
  long_sweep zero = w
  long_sweep (suc k) = split (Long n) (at (cell k)) (λ h. long_set n (cell k) _ (sweep at f cell k L) (long_sweep k)) (λ h. long_sweep k)

  module _ (idem : (l : Lock) → f (f l) ≡ f l) (c : ℕ) (lt : c < n) where
    -- the lock of a cell after a sweep
    pub lock_sweep : (k : ℕ) → lock_at (sweep at f cell k L) c ≡ cond (some? (find cell k c) && at c) (f (lock_at L c)) (lock_at L c)
    unfolding sweep on_lock find or_else
    lock_sweep zero = refl
    lock_sweep (suc k) =
        test (at (cell k))
        (λ h.
        same c (cell k)
        (λ e.
        let a : at c ≡ true = rw e h in
        rw h (rw (← e) (lock_same n c (f (lock_at (sweep at f cell k L) c)) (sweep at f cell k L) (long_sweep k) lt
        ∙ rw (lock_sweep k, eq-eqb c c refl, a) (which (find cell k c) (λ p. rw p) (λ j p. rw p (idem (lock_at L c)))))))
        (λ ne. rw (h, lock_other (cell k) c, ne_eqb (cell k) c (λ e. ne (sym e)), or_else-none, ne) (lock_sweep k)))
        (λ h.
        same c (cell k)
        (λ e. let a : at c ≡ false = rw e h in rw (h, lock_sweep k, a, and-false, and-false))
        (λ ne. rw (h, ne_eqb (cell k) c (λ e. ne (sym e)), or_else-none) (lock_sweep k)))

-- the last of two assignments to one digit counts
pub assign_over : (x s : ℕ) (a b : Bool) → assign (assign x s a) s b ≡ assign x s b
unfolding assign
assign_over x zero true b = rw (half_assign (x / 2) 1 (omega arith))
assign_over x zero false b = rw (half_assign (x / 2) 0 (omega arith))
assign_over x (suc s) a b =
    let m : (assign (x / 2) s a * 2 + x % 2) % 2 ≡ x % 2 = omega arith in
    rw (half_assign (assign (x / 2) s a) (x % 2) (omega arith), m, assign_over (x / 2) s a b)

assign_assign : (x s : ℕ) (b : Bool) → assign (assign x s b) s b ≡ assign x s b
assign_assign x s b = assign_over x s b b

pub leave_leave : (s : ℕ) (l : Lock) → leave s (leave s l) ≡ leave s l
unfolding leave
leave_leave s l = λ i. record { readers = assign_assign l.readers s false i; claimant = l.claimant; exclusive = l.exclusive }

pub withdraw_withdraw : (s : ℕ) → (s ≡ 16 → ⊥) → (l : Lock) → withdraw s (withdraw s l) ≡ withdraw s l
unfolding withdraw vacate leave
withdraw_withdraw s n l =
    test (eqb l.claimant s)
    (λ h. rw h (rw (ne_eqb 16 s (λ e. n (sym e))) (λ i. record { readers = assign_assign l.readers s false i; claimant = 16; exclusive = 0 })))
    (λ h. rw h (rw h (λ i. record { readers = assign_assign l.readers s false i; claimant = l.claimant; exclusive = l.exclusive })))

-- ---- counting

module _ (f : ℕ → Bool) where
  pub tally_flat : (a b : ℕ) → a ≤ b → ((c : ℕ) → a ≤ c → c < b → f c ≡ false) → tally f b ≡ tally f a
  unfolding tally
  tally_flat a zero l h = ap (tally f) (let e : 0 ≡ a = omega arith in e)
  tally_flat a (suc b) l h =
      same a (suc b) (λ e. rw e)
      (λ n. rw (h b (omega arith) (omega arith)) (zero-add (tally f b) ∙ tally_flat a b (omega arith) (λ c p q. h c p (omega arith))))

  tally_mono : (a b : ℕ) → a ≤ b → tally f a ≤ tally f b
  unfolding tally
  tally_mono a zero l = let e : a ≡ 0 = omega arith in rw e (omega arith)
  tally_mono a (suc b) l = same a (suc b) (λ e. rw e (omega arith)) (λ n. let w = tally_mono a b (omega arith) in test (f b) (λ t. rw t (omega arith)) (λ t. rw t (omega arith)))

  pub tally_more : (a b c : ℕ) → a ≤ c → c < b → f c ≡ true → tally f a < tally f b
  unfolding tally
  tally_more a zero c p q h = absurd (omega arith)
  tally_more a (suc b) c p q h =
      same c b (λ e. let w = tally_mono a b (omega arith) in rw (subst (λ (x : ℕ). f x ≡ true) e h) (omega arith))
      (λ n. let w = tally_more a b c p (omega arith) h in test (f b) (λ t. rw t (omega arith)) (λ t. rw t (omega arith)))

  -- at most n, and fewer where a number below n does not pass
  tally_most : (n : ℕ) → tally f n ≤ n
  unfolding tally
  tally_most zero = omega arith
  tally_most (suc n) = let w = tally_most n in test (f n) (λ t. rw t (omega arith)) (λ t. rw t (omega arith))

  pub tally_less : (n s : ℕ) → s < n → f s ≡ false → tally f n < n
  unfolding tally
  tally_less zero s l h = absurd (omega arith)
  tally_less (suc n) s l h =
      same s n (λ e. let w = tally_most n in rw (subst (λ (x : ℕ). f x ≡ false) e h) (omega arith))
      (λ d. let w = tally_less n s (omega arith) h in test (f n) (λ t. rw t (omega arith)) (λ t. rw t (omega arith)))

  -- the first number apart
  pub tally_first : (n : ℕ) → tally f (suc n) ≡ cond (f 0) 1 0 + tally (λ t. f (suc t)) n
  unfolding tally
  tally_first zero = refl
  tally_first (suc n) = let w = tally_first n in omega (arith, w)

  -- by what the numbers below n come to
  pub tally_same : (g : ℕ → Bool) (n : ℕ) → ((t : ℕ) → t < n → f t ≡ g t) → tally f n ≡ tally g n
  unfolding tally
  tally_same g zero h = refl
  tally_same g (suc n) h = rw (h n (omega arith), tally_same g n (λ t l. h t (omega arith)))

-- ---- the log's words

pub get_or-sets_other : (vs l : List ℕ) (i j : ℕ) → ((m : ℕ) → m < length vs → j ≡ i + m → ⊥) → get_or (sets l i vs) j 0 ≡ get_or l j 0
get_or-sets_other [] l i j h = refl
get_or-sets_other (v ∷ vs) l i j h =
    get_or-sets_other vs (set l i v) (suc i) j (λ m q e. h (suc m) (omega arith) (omega arith))
    ∙ get_or-set_other l i j v 0 (λ e. h 0 (omega arith) (omega arith))

pub get_or-sets_at : (vs l : List ℕ) (i m : ℕ) → m < length vs → i + length vs ≤ length l → get_or (sets l i vs) (i + m) 0 ≡ get_or vs m 0
get_or-sets_at [] l i m q w = absurd (omega arith)
get_or-sets_at (v ∷ vs) l i zero q w =
    rw (add-zero i)
    (get_or-sets_other vs (set l i v) (suc i) i (λ m q e. omega arith) ∙ get_or-set_same l i v 0 (omega arith))
get_or-sets_at (v ∷ vs) l i (suc m) q w =
    let e : i + suc m ≡ suc i + m = omega arith in
    rw e (get_or-sets_at vs (set l i v) (suc i) m (omega arith) (omega (arith, length-set l i v)))

-- ---- a session's part

pub log_length : (logs : List ℕ) (s : ℕ) → s < 16 → length logs ≡ 2048 → length (log_in logs s) ≡ 128
unfolding log_in
log_length logs s ls len = length-take-le 128 (drop (128 * s) logs) (rw length-drop (omega arith))

module _ (s : ℕ) (logs : List ℕ) (ls : s < 16) (len : length logs ≡ 2048) where
  front : length (take (128 * s) logs) ≡ 128 * s
  front = length-take-le (128 * s) logs (omega arith)

  -- a part before that of session s, and all behind it, whatever stands there
  before : (t : ℕ) (rest : List ℕ) → t < s → take 128 (drop (128 * t) (take (128 * s) logs ++ rest)) ≡ take 128 (drop (128 * t) (take (128 * s) logs))
  before t rest l =
      ap (take 128) (drop-append-le (128 * t) (take (128 * s) logs) rest (let f = front in omega arith))
      ∙ take-append-le 128 (drop (128 * t) (take (128 * s) logs)) rest (let f = front in rw length-drop (omega arith))

  behind : (t : ℕ) (p rest : List ℕ) → length p ≡ 128 → s < t → drop (128 * t) (take (128 * s) logs ++ (p ++ rest)) ≡ drop (128 * t - (128 * s + 128)) rest
  behind t p rest e l =
      let f = front in
      let q : 128 * t ≡ length (take (128 * s) logs) + (length p + (128 * t - (128 * s + 128))) = omega arith in
      ap (λ (i : ℕ). drop i (take (128 * s) logs ++ (p ++ rest))) q
      ∙ drop-append-add (take (128 * s) logs) (p ++ rest) (length p + (128 * t - (128 * s + 128)))
      ∙ drop-append-add p rest (128 * t - (128 * s + 128))

  in_parts : take (128 * s) logs ++ (log_in logs s ++ drop 128 (drop (128 * s) logs)) ≡ logs
  unfolding log_in
  in_parts = rw (take-append-drop, take-append-drop)

  module _ (f : List ℕ → List ℕ) (whole : length (f (log_in logs s)) ≡ 128) where
    pub log_same : log_in (on_log s f logs) s ≡ f (log_in logs s)
    unfolding on_log
    log_same =
        unfold log_in in
        ap (λ (i : ℕ). take 128 (drop i (take (128 * s) logs ++ (f (log_in logs s) ++ drop 128 (drop (128 * s) logs))))) (sym front)
        ∙ ap (take 128) (drop-append_seam (take (128 * s) logs) (f (log_in logs s) ++ drop 128 (drop (128 * s) logs)))
        ∙ ap (λ (i : ℕ). take i (f (log_in logs s) ++ drop 128 (drop (128 * s) logs))) (sym whole)
        ∙ take-append_seam (f (log_in logs s)) (drop 128 (drop (128 * s) logs))

    pub log_other : (t : ℕ) → (t ≡ s → ⊥) → log_in (on_log s f logs) t ≡ log_in logs t
    unfolding on_log
    log_other t n =
        unfold log_in in
        test (ltb t s)
        (λ h.
        before t (f (log_in logs s) ++ drop 128 (drop (128 * s) logs)) (ltb-true t s h)
        ∙ sym (before t (log_in logs s ++ drop 128 (drop (128 * s) logs)) (ltb-true t s h))
        ∙ ap (λ (l : List ℕ). take 128 (drop (128 * t) l)) in_parts)
        (λ h.
        let w = ltb-false t s h in
        let g : s < t = omega arith in
        ap (take 128) (behind t (f (log_in logs s)) (drop 128 (drop (128 * s) logs)) whole g)
        ∙ ap (take 128) (sym (behind t (log_in logs s) (drop 128 (drop (128 * s) logs)) (log_length logs s ls len) g))
        ∙ ap (λ (l : List ℕ). take 128 (drop (128 * t) l)) in_parts)

    pub length-on : length (on_log s f logs) ≡ length logs
    unfolding on_log
    length-on =
        let g = front in
        rw (length-append, length-append, whole, length-drop, length-drop) (omega arith)

-- ---- entries of a part

-- what an append leaves
module _ (log : List ℕ) (k c v : ℕ) (lk : k < 32) (whole : length log ≡ 128) where
  abbrev grown : List ℕ
  grown = sets log (4 * k) (c ∷ v ∷ v ∷ 0 ∷ [])

  pub grown_word : (j : ℕ) → j < 4 → word grown k j ≡ get_or (c ∷ v ∷ v ∷ 0 ∷ []) j 0
  unfolding word
  grown_word j l = get_or-sets_at (c ∷ v ∷ v ∷ 0 ∷ []) log (4 * k) j l (omega arith)

  -- the other entries keep their words
  pub grown_apart : (i j : ℕ) → (i ≡ k → ⊥) → j < 4 → word grown i j ≡ word log i j
  unfolding word
  grown_apart i j n l = get_or-sets_other (c ∷ v ∷ v ∷ 0 ∷ []) log (4 * k) (4 * i + j) (λ m q e. n (omega arith))

  -- its own cell, the cells before it, and that all of them are below n
  pub appended_cell : cell_at (appended log k c v) k ≡ c
  unfolding cell_at appended
  appended_cell = grown_word 0 (omega arith)

  pub appended_apart : (j : ℕ) → j < k → cell_at (appended log k c v) j ≡ cell_at log j
  unfolding cell_at appended
  appended_apart j l = grown_apart j 0 (λ e. omega arith) (omega arith)

  pub appended_below : (n : ℕ) → c < n → below n (cell_at log) k ≡ true → below n (cell_at (appended log k c v)) (suc k) ≡ true
  unfolding below
  appended_below n lc h = rw (appended_cell, lt-ltb c n lc) (below_ext n (cell_at (appended log k c v)) (cell_at log) k appended_apart ∙ h)

  grown_before : (d : ℕ) → look_in grown k d ≡ look_in log k d
  unfolding look_in slot_in entry_of entry_at cell_at appended
  grown_before d =
      rw (find_ext (cell_at grown) d (cell_at log) k appended_apart)
      (which (find (cell_at log) k d) (λ p. rw p)
      (λ i p.
      let l = (find_some (cell_at log) d k p).0 in
      let q : (j : ℕ) → j < 4 → word grown i j ≡ word log i j = λ j. grown_apart i j (λ e. omega arith) in
      rw p (rw (q 1 (omega arith), q 2 (omega arith), q 3 (omega arith)))))

  pub grown_find : find (cell_at log) k c ≡ none → find (cell_at grown) (suc k) c ≡ some k
  unfolding find or_else cell_at appended
  grown_find h =
      rw (find_ext (cell_at grown) c (cell_at log) k appended_apart, h, grown_word 0 (omega arith), eq-eqb c c refl)

  pub grown_new : look_in log k c ≡ none → look_in grown (suc k) c ≡ some (record { snapshot = v; current = v; dirty = false; held = false })
  unfolding look_in slot_in entry_of entry_at cell_at find or_else odd
  grown_new h =
      let e = grown_before c ∙ h in
      which (find (cell_at grown) k c)
      (λ p. rw (p, grown_word 0 (omega arith), eq-eqb c c refl) (rw (grown_word 1 (omega arith), grown_word 2 (omega arith), grown_word 3 (omega arith))))
      (λ i p. nothing (sym (rw p at e)))

  pub grown_old : (d : ℕ) → (d ≡ c → ⊥) → look_in grown (suc k) d ≡ look_in log k d
  unfolding look_in slot_in cell_at find
  grown_old d n = rw (grown_word 0 (omega arith), ne_eqb c d (λ e. n (sym e)), or_else-none) (grown_before d)

-- what a known cell's entry leaves whose last two words are set to v and w
module _ (log : List ℕ) (m k c v w : ℕ) (lm : m ≤ 32) (whole : length log ≡ 128) (f : find (cell_at log) m c ≡ some k) where
  abbrev changed : List ℕ
  changed = sets log (4 * k + 2) (v ∷ w ∷ [])

  -- cells and values found stay, and so do the other entries
  changed_early : (i j : ℕ) → j < 2 → word changed i j ≡ word log i j
  unfolding word
  changed_early i j l = get_or-sets_other (v ∷ w ∷ []) log (4 * k + 2) (4 * i + j) (λ x y e. omega arith)

  changed_far : (i j : ℕ) → j < 4 → (i ≡ k → ⊥) → word changed i j ≡ word log i j
  unfolding word
  changed_far i j l n = get_or-sets_other (v ∷ w ∷ []) log (4 * k + 2) (4 * i + j) (λ x y e. n (omega arith))

  changed_find : (d : ℕ) → find (cell_at changed) m d ≡ find (cell_at log) m d
  unfolding cell_at
  changed_find d = find_ext (cell_at changed) d (cell_at log) m (λ j l. changed_early j 0 (omega arith))

  pub changed_old : (d : ℕ) → (d ≡ c → ⊥) → look_in changed m d ≡ look_in log m d
  unfolding look_in slot_in entry_of entry_at
  changed_old d n =
      rw (changed_find d)
      (which (find (cell_at log) m d) (λ p. rw p)
      (λ j p.
      let a = find_some (cell_at log) d m p in
      let u = find_some (cell_at log) c m f in
      let ne : j ≡ k → ⊥ = λ e. n (sym a.1 ∙ ap (cell_at log) e ∙ u.1) in
      let q : (i : ℕ) → i < 4 → word changed j i ≡ word log j i = λ i l. changed_far j i l ne in
      rw p (rw (q 1 (omega arith), q 2 (omega arith), q 3 (omega arith)))))

  changed_at_lem : (i : ℕ) → i < 2 → word changed k (2 + i) ≡ get_or (v ∷ w ∷ []) i 0
  unfolding word
  changed_at_lem i l =
      let u = (find_some (cell_at log) c m f).0 in
      let e : 4 * k + (2 + i) ≡ 4 * k + 2 + i = omega arith in
      rw e (get_or-sets_at (v ∷ w ∷ []) log (4 * k + 2) i l (omega arith))

  pub changed_new : look_in changed m c ≡ some (record { snapshot = word log k 1; current = v; dirty = odd w; held = odd (w / 2) })
  unfolding look_in slot_in entry_of entry_at
  changed_new = rw (changed_find c, f) (rw (changed_early k 1 (omega arith), changed_at_lem 0 (omega arith), changed_at_lem 1 (omega arith)))

-- the two marks of the fourth word: setting one keeps the other
pub dirty_set : (w : ℕ) → (odd (with_dirty w) ≡ true) × (odd (with_dirty w / 2) ≡ odd (w / 2))
unfolding odd with_dirty
dirty_set w =
    let a : (w / 2 % 2 * 2 + 1) % 2 ≡ 1 = omega arith in
    let b : w / 2 % 2 % 2 ≡ w / 2 % 2 = omega arith in
    (rw a, rw (half_assign (w / 2 % 2) 1 (omega arith), b))

pub held_set : (w : ℕ) → (odd (with_held w) ≡ odd w) × (odd (with_held w / 2) ≡ true)
unfolding odd with_held
held_set w =
    let a : (2 + w % 2) % 2 ≡ w % 2 = omega arith in
    let b : (2 + w % 2) / 2 ≡ 1 = half_assign 1 (w % 2) (omega arith) in
    (rw a, rw b)

-- a mark set is both words set, the value to what it was
pub marked_words : (log : List ℕ) (k : ℕ) → marked log k ≡ sets log (4 * k + 2) (word log k 2 ∷ with_held (word log k 3) ∷ [])
unfolding marked word
marked_words log k =
    let e : 4 * k + 3 ≡ suc (4 * k + 2) = omega arith in
    ap (λ (i : ℕ). set log i (with_held (get_or log (4 * k + 3) 0))) e
    ∙ ap (λ (l : List ℕ). set l (suc (4 * k + 2)) (with_held (get_or log (4 * k + 3) 0))) (sym (set-get_or log (4 * k + 2) 0))

-- ---- session records

pub session_same : (ss : Sessions) (s : ℕ) (x : Session) → length ss.records ≡ 16 → s < 16 → session_at (with_session ss s x) s ≡ x
unfolding session_at with_session
session_same ss s x h lt = get_or-set_same ss.records s x idle (omega arith)

pub session_other : (ss : Sessions) (s : ℕ) (x : Session) (t : ℕ) → (t ≡ s → ⊥) → session_at (with_session ss s x) t ≡ session_at ss t
unfolding session_at with_session
session_other ss s x t n = get_or-set_other ss.records s t x idle n

pub length-records : (ss : Sessions) (s : ℕ) (x : Session) → length (with_session ss s x).records ≡ length ss.records
unfolding with_session
length-records ss s x = length-set ss.records s x
