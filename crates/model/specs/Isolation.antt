-- Demand 3, the claim: the committed transactions of a list of actions have snapshot and commit places such that each read before writing is the last commit's
-- before the snapshot, or the starting value, and so is each value found at a write or a hold, and writers of one cell have spans that do not meet; a commit is the call with which all writer locks are held. And the same of code.
use Rattle.std.specs.Prelude.{ℕ, suc, ◌≤◌, ◌<◌, ◌≡◌, ◌⊎◌, Bool, true, false, cond, List, [], ◌∷◌, reverse, leb, eqb, length}
use Rattle.records.specs.declared.Call.{Call}
use Rattle.records.specs.declared.Answer.{Answer}
use Rattle.model.specs.Buffers.{Store, lock_at}
use Rattle.model.specs.History.{Action, one_call, many_reads, load_caps, Event, event, with_found, reads_event, load_event, run, events, Item, told, history, Name, transaction, is_open, wrote, value_written, cells_written, reads_before_writing, values_found, snapshot, commit, committed, starting_value}
use Rattle.model.specs.Load.{load_effect}
use Rattle.model.specs.ManyReads.{Reads, read_many}
use Rattle.model.specs.Step.{outcome, effect}
use Rattle.model.specs.Told.{Told, found_by, seals, moves, ReadOf}

abbrev pub All {ℓ} : {A : Type ℓ} → (A → Type 0) → List A → Type 0
All P [] = Unit
All P (x ∷ xs) = P x × All P xs

abbrev pub Any {ℓ} : {A : Type ℓ} → (A → Type 0) → List A → Type 0
Any P [] = ⊥
Any P (x ∷ xs) = P x ⊎ Any P xs

-- of the starting values and what a list of actions tells
module _ (first : List ℕ) (h : List Item) where
  -- the transaction of a name, and that it is committed
  abbrev pub at : Name → List Item
  at x = transaction x h

  abbrev pub Commits : Name → Type 0
  Commits x = committed (length first) (at x) ≡ true

  abbrev pub snapshot_of : Name → ℕ
  snapshot_of x = snapshot (at x)

  abbrev pub commit_of : Name → ℕ
  commit_of x = commit (length first) (at x)

  -- the transaction has told, at place q, something that passes a test
  abbrev pub ToldAt : Name → ℕ → (Told → Bool) → Type 0
  ToldAt x q test = Any (λ (i : Item). (i.place ≡ q) × (test i.told ≡ true)) (at x)

  -- the transaction committed to cell c before place q
  pub record CommitsTo (c q : ℕ) (x : Name) : Type 0 where
    pub commits : Commits x
    pub wrote : wrote (at x) c ≡ true
    pub before : commit_of x < q

  -- v is the value of the last commit to cell c before place q, or the starting value where there is none
  pub data Last (c q v : ℕ) : Type 0 where
    last_commit : (x : Name) → CommitsTo c q x → ((y : Name) → CommitsTo c q y → commit_of y ≤ commit_of x) → value_written (at x) c ≡ v → Last c q v
    no_commit : ((y : Name) → CommitsTo c q y → ⊥) → starting_value first c ≡ v → Last c q v

  pub record Isolated : Type 0 where
    -- the snapshot is the place of its own seal, after its begin and not after its commit
    pub snapshots : (x : Name) → Commits x → (x.place < snapshot_of x) × (snapshot_of x ≤ commit_of x) × ToldAt x (snapshot_of x) seals
    -- the commit is the place of its own advance, or of that seal where it wrote no cell
    pub commits : (x : Name) → Commits x → ToldAt x (commit_of x) (λ w. cond (eqb (cells_written (length first) (at x)) 0) (seals w) (moves w))
    -- each read before writing is the last commit's before the snapshot
    pub reads : (x : Name) → Commits x → All (λ (r : ReadOf). Last r.cell (snapshot_of x) r.value) (reads_before_writing (at x))
    -- and so is each value found at a write or a hold: what is written back, or held and not written, is what the last commit left
    pub finds : (x : Name) → Commits x → All (λ (r : ReadOf). Last r.cell (snapshot_of x) r.value) (values_found (at x))
    -- two writers of one cell have spans, from snapshot to commit, that do not meet
    pub apart : (x y : Name) (c : ℕ) → (x ≡ y → ⊥) → Commits x → Commits y → wrote (at x) c ≡ true → wrote (at y) c ≡ true
        → (commit_of x < snapshot_of y) ⊎ (commit_of y < snapshot_of x)

-- ---- writer locks

-- session s is claimant of cell c, with mark 1: it holds the writer lock, which the call hold by itself does not give
abbrev pub Holds : Store → ℕ → ℕ → Type 0
Holds σ s c = ((lock_at σ.lent.locks c).claimant ≡ s) × ((lock_at σ.lent.locks c).exclusive ≡ 1)

-- the first m actions of a list, which has the newest first
unfoldable pub firsts : ℕ → List Action → List Action
firsts m [] = []
firsts m (k ∷ ks) = cond (leb (suc (length ks)) m) (k ∷ ks) (firsts m ks)

-- of what is told where a list of actions starts, the store there, and the list, the newest first; `at`, `Commits` and `commit_of` are those above, of these values
-- and items
module _ (start : List Item) (σ : Store) (ks : List Action) where
  abbrev values : List ℕ
  values = σ.lent.values

  abbrev items : List Item
  items = history start σ ks

  -- the transaction holds, in a store, the writer lock of each cell that it wrote
  abbrev pub HoldsAll : Store → Name → Type 0
  HoldsAll τ x = (c : ℕ) → wrote (at values items x) c ≡ true → Holds τ x.session c

  pub record HoldsAtCommit : Type 0 where
    -- with its commit call a committed transaction holds all its writer locks
    pub with_this : (x : Name) → Commits values items x → HoldsAll (run σ (firsts (commit_of values items x) ks)) x
    -- and not before: one that wrote a cell does not hold them all after any earlier action from its begin on (an earlier transaction of its session may have)
    pub not_before : (x : Name) (m : ℕ) → Commits values items x → x.place ≤ m → m < commit_of values items x
        → (c : ℕ) → wrote (at values items x) c ≡ true → HoldsAll (run σ (firsts m ks)) x → ⊥
    -- one that is open, wrote a cell and is not committed does not hold them all in the store that the list leaves
    pub not_uncommitted : (x : Name) → is_open (at values items x) ≡ true → committed (length values) (at values items x) ≡ false
        → (c : ℕ) → wrote (at values items x) c ≡ true → HoldsAll (run σ ks) x → ⊥

-- ---- demand 3

-- of a list of actions, in their order, from a store where `start` is told; `demand3` proves it of what a set-up answered 100 left, with `[]`
pub record Demand3 (start : List Item) (σ : Store) (actions : List Action) : Type 0 where
  pub isolated : Isolated σ.lent.values (history start σ (reverse actions))
  pub locks : HoldsAtCommit start σ (reverse actions)

-- ---- demand 3 of code

-- actions taken one after the other by code that keeps its contract, the newest first: each was answered, and left, what `effect`, `read_many` of many reads, or
-- `load_effect` of a load, says of what the one before left
pub data Ran (σ : Store) : List Action → List Event → Store → Type 0 where
  none : Ran σ [] [] σ
  then : {ks : List Action} {h : List Event} {x : Store} → Ran σ ks h x → (k : Call) (a : Answer) (y : Store) → outcome a y ≡ effect k x
      → Ran σ (one_call k ∷ ks) (with_found (found_by k y) (event k a) ∷ h) y
  then_many : {ks : List Action} {h : List Event} {x : Store} → Ran σ ks h x → (s : ℕ) (cs : List ℕ) (words : ℕ) (r : Reads) → r ≡ read_many s cs words x
      → Ran σ (many_reads s cs words ∷ ks) (reads_event s cs words r.values r.last ∷ h) r.store
  then_load : {ks : List Action} {h : List Event} {x : Store} → Ran σ ks h x → (T : List ℕ) (a : Answer) (y : Store) → outcome a y ≡ load_effect T x
      → Ran σ (load_caps T ∷ ks) (load_event T a ∷ h) y

-- what code answered, and the store that it left, of a list of actions in their order: those of the model, and demand 3 holds of them; `demand3_of_code` proves
-- it of what a set-up answered 100 left
pub record Demand3OfCode (σ : Store) (actions : List Action) (h : List Event) (τ : Store) : Type 0 where
  pub events : h ≡ events σ (reverse actions)
  pub left : τ ≡ run σ (reverse actions)
  pub isolated : Isolated σ.lent.values (told [] h)
  pub locks : HoldsAtCommit [] σ (reverse actions)
