-- The caps, beside demand 3: of every list of actions, loads of other tables among them, no value in the store, none that a read or a hold is answered, and no
-- present value in the log of an open transaction, written or not, is above its cell's cap in the table in force, which passes (document 02, Paper 5).
use Rattle.std.specs.Prelude.{ℕ, ◌≤◌, ◌<◌, ◌≡◌, true, List, [], ◌∷◌, get_or}
use Rattle.records.specs.declared.Session.{Session}
use Rattle.model.specs.Buffers.{Store, cap, has_caps, passes, cell_at, entry_at}
use Rattle.model.specs.Effects.{record_of, log_of}
use Rattle.model.specs.History.{Action, event_of, tells_of, run}
use Rattle.model.specs.Isolation.{All}
use Rattle.model.specs.Told.{Told, WhereGot}

-- the cap of a cell, by its class, in the table in force
abbrev pub cap_of : Store → ℕ → ℕ
cap_of σ c = cap σ.limits.caps (get_or σ.lent.classes c 0)

-- a value that was got is within its cell's cap
abbrev pub GotWithin : Store → Told → Type 0
GotWithin σ w = WhereGot (λ c v. v ≤ cap_of σ c) w

-- of a list of actions: what each of them got is, in the store that it left
abbrev pub EachGotWithin : Store → List Action → Type 0
EachGotWithin σ [] = Unit
EachGotWithin σ (k ∷ ks) = EachGotWithin σ ks × All (GotWithin (run σ (k ∷ ks))) (tells_of (event_of k (run σ ks)))

-- entry k is in use: of a session that is not idle, below its count
abbrev pub InUse : Session → ℕ → Type 0
InUse x k = (x.phase ≡ 0 → ⊥) × (k < x.count)

-- the present value of entry k of a log is within the bound of its cell
abbrev pub EntryWithin : (ℕ → ℕ) → List ℕ → ℕ → Type 0
EntryWithin bound log k = (entry_at log k).current ≤ bound (cell_at log k)

-- the table in force has 16 caps, and passes
abbrev pub Passing : Store → Type 0
Passing σ = (has_caps σ.limits.caps ≡ true) × (passes σ.limits.caps ≡ true)

-- of a list of actions, the newest first, from the store σ; `within_caps` proves it of what a set-up answered 100 left
pub record WithinCaps (σ : Store) (ks : List Action) : Type 0 where
  pub table : Passing (run σ ks)
  pub stored : (c : ℕ) → get_or (run σ ks).lent.values c 0 ≤ cap_of (run σ ks) c
  pub got : EachGotWithin σ ks
  pub logged : (s k : ℕ) → InUse (record_of (run σ ks) s) k → EntryWithin (cap_of (run σ ks)) (log_of (run σ ks) s) k
