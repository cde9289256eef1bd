-- Changing lock records one after the other is, unzipped, what the model does to its three lists.
use mathlib.Core.Path.{◌≡◌, refl, sym, ap, ◌∙◌}
use mathlib.Core.Bool.{not}
use mathlib.Core.List.{List, [], ◌∷◌, ◌++◌, append-nil}
use Prim.Native.Nat.{ℕ, zero, suc, ◌<◌, ◌≤◌}
use native.Mathlib.Nat.{not-suc-le-zero, le_of_suc-le-suc}
use native.Mathlib.Omega.{arith}
use lib.ListN.{length, get_or, set, drop, length-set, replicate, drop_of_length-le}
use Rattle.model.specs.Buffers.{free, log_in, cell_at, publishes_in, lock_at, set_lock, on_lock, sweep, join, leave, vacate, withdraw, claim, acquire}
use Rattle.model.specs.Effects.{rolled_back, reads_dropped}
use Rattle.model.specs.Turns.{changed}
use Rattle.records.specs.declared.Lock.{Lock}
use Rattle.records.specs.declared.Change.{Change as LockChange}
use Rattle.records.specs.declared.Change.TheVariants as to
use Rattle.model.proofs.Tools.{test}
use Rattle.locks.specs.Changes.{ChangeFits as Fits}
use Rattle.run_changes.specs.declared.Change.TheVariants.{Turn, Clear}
use Rattle.run_changes.specs.Run.{each, unzipped, lock_in, count_of, cell_of, change_of, swept, swept_by, on_run, ChangeFits}

-- past the end nothing is stored
pub set_past : {X : Type 0} (l : List X) (i : ℕ) (v : X) → length l ≤ i → set l i v ≡ l
set_past [] i v h = refl
set_past (x ∷ xs) zero v h = absurd (not-suc-le-zero h)
set_past {X} (x ∷ xs) (suc i) v h = ap (λ (r : List X). x ∷ r) (set_past xs i v (le_of_suc-le-suc h))

-- ---- one field of every record

pub each_length : (f : Lock → ℕ) (L : List Lock) → length (each f L) ≡ length L
each_length f [] = refl
each_length f (l ∷ L) = ap suc (each_length f L)

each_set : (f : Lock → ℕ) (L : List Lock) (c : ℕ) (l : Lock) → each f (set L c l) ≡ set (each f L) c (f l)
each_set f [] c l = refl
each_set f (k ∷ L) zero l = refl
each_set f (k ∷ L) (suc c) l = ap (λ (r : List ℕ). f k ∷ r) (each_set f L c l)

each_at : (f : Lock → ℕ) (L : List Lock) (c : ℕ) → get_or (each f L) c (f free) ≡ f (lock_in L c)
each_at f [] c = refl
each_at f (l ∷ L) zero = refl
each_at f (l ∷ L) (suc c) = each_at f L c

each_replicate : (f : Lock → ℕ) (n : ℕ) (l : Lock) → each f (replicate n l) ≡ replicate n (f l)
each_replicate f zero l = refl
each_replicate f (suc n) l = ap (λ (r : List ℕ). f l ∷ r) (each_replicate f n l)

-- ---- one lock

pub unzipped_at : (L : List Lock) (c : ℕ) → lock_at (unzipped L) c ≡ lock_in L c
unfolding lock_at
unzipped_at L c = rw (each_at (λ l. l.readers) L c, each_at (λ l. l.claimant) L c, each_at (λ l. l.exclusive) L c)

pub unzipped_set : (L : List Lock) (c : ℕ) (l : Lock) → unzipped (set L c l) ≡ set_lock c l (unzipped L)
unfolding set_lock
unzipped_set L c l = rw (each_set (λ l. l.readers) L c l, each_set (λ l. l.claimant) L c l, each_set (λ l. l.exclusive) L c l)

-- a lock changed by f
unzipped_on : (f : Lock → Lock) (L : List Lock) (c : ℕ) → unzipped (set L c (f (lock_in L c))) ≡ on_lock c f (unzipped L)
unfolding on_lock
unzipped_on f L c = unzipped_set L c (f (lock_in L c)) ∙ ap (λ (l : Lock). set_lock c (f l) (unzipped L)) (sym (unzipped_at L c))

-- ---- a change of each entry's cell

module _ (W : List ℕ) (s m : ℕ) (L : List Lock) where
  withdraws_to : (k : ℕ) → unzipped (swept W (Turn to.Withdraw s m) k L) ≡ rolled_back (log_in W s) k s (unzipped L)
  unfolding rolled_back swept sweep cell_of change_of
  withdraws_to zero = refl
  withdraws_to (suc k) = unzipped_on (withdraw s) (swept W (Turn to.Withdraw s m) k L) (cell_at (log_in W s) k) ∙ ap (on_lock (cell_at (log_in W s) k) (withdraw s)) (withdraws_to k)

  withdraws : unzipped (swept_by W (Turn to.Withdraw s m) L) ≡ rolled_back (log_in W s) m s (unzipped L)
  unfolding count_of
  withdraws = withdraws_to m

  -- no cell of the run is 1,024
  module _ (few : length L ≤ 1024) where
    still : (k : ℕ) → length (swept W (Turn to.DropReads s m) k L) ≡ length L
    unfolding swept
    still zero = refl
    still (suc k) = length-set (swept W (Turn to.DropReads s m) k L) _ _ ∙ still k

    leaves_to : (k : ℕ) → unzipped (swept W (Turn to.DropReads s m) k L) ≡ sweep (λ c. not (publishes_in (log_in W s) m c)) (leave s) (cell_at (log_in W s)) k (unzipped L)
    unfolding swept sweep cell_of change_of
    leaves_to zero = refl
    leaves_to (suc k) =
        test (publishes_in (log_in W s) m (cell_at (log_in W s) k))
        (λ e. let l = still k in rw e (ap unzipped (set_past (swept W (Turn to.DropReads s m) k L) 1024 _ (omega arith)) ∙ leaves_to k))
        (λ e. rw e (unzipped_on (leave s) (swept W (Turn to.DropReads s m) k L) (cell_at (log_in W s) k) ∙ ap (on_lock (cell_at (log_in W s) k) (leave s)) (leaves_to k)))

    leaves : unzipped (swept_by W (Turn to.DropReads s m) L) ≡ reads_dropped (log_in W s) m s (unzipped L)
    unfolding reads_dropped count_of
    leaves = leaves_to m

-- ---- a turn's change

pub changes : (d : LockChange) (W : List ℕ) (s m : ℕ) (L : List Lock) → length L ≤ 1024 → unzipped (swept_by W (on_run d s m) L) ≡ changed d (log_in W s) m s (unzipped L)
unfolding on_run changed count_of swept cell_of change_of
changes to.Keep W s m L few = refl
changes (to.Join c) W s m L few = unzipped_on (join s) L c
changes (to.Claim c) W s m L few = unzipped_on (claim s) L c
changes (to.Acquire c) W s m L few = unzipped_on (acquire s) L c
changes (to.Vacate c) W s m L few = unzipped_on (vacate s) L c
changes to.Withdraw W s m L few = withdraws W s m L
changes to.DropReads W s m L few = leaves W s m L few

-- it can be carried out on the run where it can on three lists
pub change_fits : (d : LockChange) (W log : List ℕ) (s m n : ℕ) → s < 16 → length log ≡ 128 → length W ≡ 2048 → Fits d s log m n → ChangeFits W (on_run d s m)
unfolding on_run Fits
change_fits to.Keep W log s m n low whole long f = tt
change_fits (to.Join c) W log s m n low whole long f = low
change_fits (to.Claim c) W log s m n low whole long f = low
change_fits (to.Acquire c) W log s m n low whole long f = low
change_fits (to.Vacate c) W log s m n low whole long f = low
change_fits to.Withdraw W log s m n low whole long f = (low, omega (arith, f.count), long)
change_fits to.DropReads W log s m n low whole long f = (low, omega (arith, f.0.count), long)

-- ---- all locks empty

fill : (k : ℕ) (L : List Lock) → k < length L → set (replicate k free ++ drop k L) k free ≡ replicate (suc k) free ++ drop (suc k) L
fill k [] h = absurd (not-suc-le-zero h)
fill zero (l ∷ L) h = refl
fill (suc k) (l ∷ L) h = ap (λ (r : List Lock). free ∷ r) (fill k L (le_of_suc-le-suc h))

module _ (W : List ℕ) (n : ℕ) (L : List Lock) where
  clears_to : (k : ℕ) → k ≤ length L → swept W (Clear n) k L ≡ replicate k free ++ drop k L
  unfolding swept cell_of change_of
  clears_to zero h = refl
  clears_to (suc k) h =
      ap (λ (r : List Lock). set r k free) (clears_to k (omega arith)) ∙ fill k L h

  module _ (long : length L ≡ n) where
    cleared : swept_by W (Clear n) L ≡ replicate n free
    unfolding count_of
    cleared = let h : length L ≤ n = omega arith in clears_to n (omega arith) ∙ rw (drop_of_length-le L h, append-nil)

    pub clears : (f : Lock → ℕ) → each f (swept_by W (Clear n) L) ≡ replicate (length (each f L)) (f free)
    clears f = rw (cleared, each_length f L, long) (each_replicate f n free)
