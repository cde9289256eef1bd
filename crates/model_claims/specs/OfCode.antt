-- What stands beside demand 3, of code: what crate model says of a list of actions by what the model answers and leaves,
-- here said of what code answered and left.
use Rattle.std.specs.Prelude.{ℕ, ◌≤◌, ◌<◌, ◌≡◌, List, [], ◌∷◌, map, get_or}
use Rattle.std.proofs.Math.Option.{some}
use Rattle.records.specs.declared.Answer.{Answer}
use Rattle.records.specs.declared.Call.TheVariants.{Advance}
use Rattle.model.specs.Buffers.{Store}
use Rattle.model.specs.Caps.{cap_of, GotWithin, InUse, EntryWithin, Passing}
use Rattle.model.specs.Effects.{number, value_of, record_of, log_of}
use Rattle.model.specs.History.{Action, one_call, Event, tells_of, run, told}
use Rattle.model.specs.InTheWay.{due_in, others_in_the_way}
use Rattle.model.specs.Isolation.{All}
use Rattle.model.specs.Serial.{serial, NoneOpen, ReadsSerially, Undisturbed}

-- the actions of events
abbrev pub actions_of : List Event → List Action
actions_of h = map {B = Action} (λ (e : Event). e.action) h

-- ---- one after the other (`SeriallyEqual`)

-- of the starting values, the events of a list, the newest first, of which `OneAtATime` holds, and the store that it
-- leaves
pub record SeriallyEqualOfCode (first : List ℕ) (h : List Event) (τ : Store) : Type 0 where
  -- what is read is what the serial store would read
  pub reads : ReadsSerially first h
  -- where no transaction is open the values are the serial store's
  pub left : NoneOpen (told [] h) → τ.lent.values ≡ (serial first h).values
  -- nobody is turned away or waits
  pub undisturbed : All (λ (e : Event). Undisturbed e.answer) h

-- ---- the caps (`WithinCaps`)

-- of events, the newest first: what each of them got is within its cell's cap, by the table in force in the store that
-- its action left
abbrev pub EachGotWithinOfCode : Store → List Event → Type 0
EachGotWithinOfCode σ [] = Unit
EachGotWithinOfCode σ (e ∷ h) = EachGotWithinOfCode σ h × All (GotWithin (run σ (actions_of (e ∷ h)))) (tells_of e)

-- of the store where a list of actions starts, its events, the newest first, and the store that it leaves
pub record WithinCapsOfCode (σ : Store) (h : List Event) (τ : Store) : Type 0 where
  -- the table in force passes
  pub table : Passing τ
  -- no value in the store is above its cell's cap
  pub stored : (c : ℕ) → get_or τ.lent.values c 0 ≤ cap_of τ c
  -- none that a read or a hold was answered was, when it was answered
  pub got : EachGotWithinOfCode σ h
  -- and no present value in the log of an open transaction is
  pub logged : (s k : ℕ) → InUse (record_of τ s) k → EntryWithin (cap_of τ) (log_of τ s) k

-- ---- how many are in the way (`EachWaitsForThose`)

-- an advance of session s that the store σ met, answered a: with 104 it tells just how many others are in the way at the
-- cell that is due, 1 to 15
abbrev pub TellsThose : Store → ℕ → Answer → Type 0
TellsThose σ s a =
    number a ≡ 104
    → (c : ℕ) × (due_in σ s ≡ some c) × (value_of a ≡ others_in_the_way σ s c) × (0 < value_of a) × (value_of a ≤ 15)

-- of the store where a list of actions starts and its events, the newest first: each advance, by the store that it met
abbrev pub EachWaitsOfCode : Store → List Event → Type 0
EachWaitsOfCode σ [] = Unit
EachWaitsOfCode σ (e ∷ h) =
    EachWaitsOfCode σ h
    × ((s : ℕ) → e.action ≡ one_call (Advance s) → TellsThose (run σ (actions_of h)) s e.answer)
