-- What a call tells a caller in C: document 01's number and value, the record of its session, and the buffers that it leaves.
use Rattle.std.specs.Prelude.{ℕ, ◌%◌, ◌≡◌, List, [], ◌∷◌, map, reverse, length, take}
use Rattle.model.specs.Buffers.{Limits, ours, Store, session_at, with_session}
use Rattle.model.specs.Slices.{Slice, Number, caps_before, caps_after}
use Rattle.model.specs.History.{Action, one_call, many_reads, load_caps, Event}
use Rattle.model.specs.History as items
use Rattle.model.specs.Caps.{WithinCaps}
use Rattle.model.specs.CommitOrder.{InCommitOrder}
use Rattle.model.specs.InTheWay.{EachWaitsForThose}
use Rattle.model.specs.Isolation.{Demand3OfCode}
use Rattle.model.specs.Effects.{number, value_of, Part, store_word, log_word, no_word}
use Rattle.model.specs.Step.{Outcome, effect, set_up_effect, peek_shows, session_of, GoesBy}
use Rattle.model.specs.Load.{load_effect}
use Rattle.model.specs.ManyReads.{ReadsOutcome, read_many_effect}
use Rattle.records.specs.declared.Answer.{Answer}
use Rattle.records.specs.declared.Call.{Call}
use Rattle.records.specs.declared.Session.{Session}
use Rattle.records.specs.declared.Sessions.{Sessions}
use Rattle.contracts.specs.Lent.{before, afterwards}
use Rattle.numbers.specs.declared.NumberReply.{NumberReply}
use Rattle.numbers.specs.declared.SetUpReply.{SetUpReply}

-- a call's number, value, and all that it leaves
pub record NumberOutcome : Type 0 where
  pub number : ℕ
  pub value : ℕ
  pub store : Store

abbrev pub replied : ℕ → ℕ → Store → NumberOutcome
replied n v σ = record { number = n; value = v; store = σ }

abbrev pub in_numbers : Outcome → NumberOutcome
in_numbers o = replied (number o.answer) (value_of o.answer) o.store

-- the call k, under the limits G and handed the record x of its session, tells its answer in numbers and leaves what the model says: of every sixteen records of which
-- x is the session's, with the one handed back in its place. A session above 15 has no record: what is handed in comes back as it came
abbrev pub TakesInNumbersUnder : Limits → Call → Slice → Slice → Slice → Slice → Slice → Slice → Session → NumberReply → Type 0
TakesInNumbersUnder G k values classes readers claimants exclusives logs x r =
    (ss : Sessions) → session_at ss (session_of k % 16) ≡ x
    → replied r.number r.value (afterwards G values classes readers claimants exclusives logs (with_session ss (session_of k % 16) r.session))
    ≡ in_numbers (effect k (before G values classes readers claimants exclusives logs ss))

-- handed no table, whatever the limits are that it goes by; and handed one
abbrev pub TakesInNumbers : Call → Slice → Slice → Slice → Slice → Slice → Slice → Session → NumberReply → Type 0
TakesInNumbers k values classes readers claimants exclusives logs x r =
    (G : Limits) → GoesBy k G → TakesInNumbersUnder G k values classes readers claimants exclusives logs x r

abbrev pub TakesInNumbersBy : Slice → Call → Slice → Slice → Slice → Slice → Slice → Slice → Session → NumberReply → Type 0
TakesInNumbersBy caps k values classes readers claimants exclusives logs x r =
    TakesInNumbersUnder (caps_before caps) k values classes readers claimants exclusives logs x r

-- set-up under the limits G: by our caps, and by a table
abbrev pub SetsUpInNumbersUnder : Limits → Slice → Slice → Slice → Slice → Slice → Slice → Sessions → SetUpReply → Type 0
SetsUpInNumbersUnder G values classes readers claimants exclusives logs ss r =
    replied r.number r.value (afterwards G values classes readers claimants exclusives logs r.sessions)
    ≡ in_numbers (set_up_effect (before G values classes readers claimants exclusives logs ss))

abbrev pub SetsUpInNumbers : Slice → Slice → Slice → Slice → Slice → Slice → Sessions → SetUpReply → Type 0
SetsUpInNumbers values classes readers claimants exclusives logs ss r = SetsUpInNumbersUnder ours values classes readers claimants exclusives logs ss r

abbrev pub SetsUpInNumbersBy : Slice → Slice → Slice → Slice → Slice → Slice → Slice → Sessions → SetUpReply → Type 0
SetsUpInNumbersBy caps values classes readers claimants exclusives logs ss r = SetsUpInNumbersUnder (caps_before caps) values classes readers claimants exclusives logs ss r

-- a load
abbrev pub LoadsInNumbers : Slice → Slice → Slice → Slice → Slice → Slice → Slice → Slice → Sessions → SetUpReply → Type 0
LoadsInNumbers caps table values classes readers claimants exclusives logs ss r =
    replied r.number r.value (afterwards (caps_after caps) values classes readers claimants exclusives logs r.sessions)
    ≡ in_numbers (load_effect table.entry.now (before (caps_before caps) values classes readers claimants exclusives logs ss))

-- where a peek's word is: kind 1 in the values, 2 in the logs, and the index there; 0 nowhere, and the index stays j
pub record Place : Type 0 where
  pub kind : ℕ
  pub index : ℕ

abbrev pub at : ℕ → ℕ → Place
at k i = record { kind = k; index = i }

abbrev pub place_of : Part → ℕ → Place
place_of (store_word i) j = at 1 i
place_of (log_word i) j = at 2 i
place_of no_word j = at 0 j

-- the peek of cell c by session s, with its record x and whatever the limits are, tells where its word is: the kind r, and in a lent number the index
abbrev pub TellsPlace : ℕ → ℕ → Slice → Slice → Slice → Slice → Slice → Slice → Session → Number → ℕ → Type 0
TellsPlace s c values classes readers claimants exclusives logs x index r =
    (G : Limits) (ss : Sessions) → session_at ss (s % 16) ≡ x
    → at r index.exit.now ≡ place_of (peek_shows s c (before G values classes readers claimants exclusives logs ss)) index.entry.now

-- ---- lists of calls for C

-- what a caller in C hears of an action: of a call its number and value; of many reads, into a target of so many words, their number and the values at the front of
-- the target, as many as their count says; of a load its number
pub data Heard : Type 0 where
  called : Call → ℕ → ℕ → Heard
  called_many : ℕ → List ℕ → ℕ → ℕ → List ℕ → Heard
  called_load : List ℕ → ℕ → Heard

abbrev pub heard_of : Action → Answer → List ℕ → Heard
heard_of (one_call k) a vs = called k (number a) (value_of a)
heard_of (many_reads s cs words) a vs = called_many s cs words (number a) vs
heard_of (load_caps T) a vs = called_load T (number a)

abbrev pub heard : Event → Heard
heard e = heard_of e.action e.answer e.values

-- calls for C made one after the other, the newest first: each kept its contract on what the call before left, the record handed back put in its place, and a write
-- was handed the table in force, or none where that is ours
pub data Called (σ : Store) : List Action → List Heard → Store → Type 0 where
  none : Called σ [] [] σ
  then : {ks : List Action} {h : List Heard} {x : Store} → Called σ ks h x → (k : Call) (n v : ℕ) (y : Store) → replied n v y ≡ in_numbers (effect k x)
      → Called σ (one_call k ∷ ks) (called k n v ∷ h) y
  then_many : {ks : List Action} {h : List Heard} {x : Store} → Called σ ks h x → (s : ℕ) (cs target : List ℕ) (o : ReadsOutcome) → o ≡ read_many_effect s cs target x
      → Called σ (many_reads s cs (length target) ∷ ks) (called_many s cs (length target) o.number (take o.count o.target) ∷ h) o.store
  then_load : {ks : List Action} {h : List Heard} {x : Store} → Called σ ks h x → (T : List ℕ) (n v : ℕ) (y : Store) → replied n v y ≡ in_numbers (load_effect T x)
      → Called σ (load_caps T ∷ ks) (called_load T n ∷ h) y

-- what C was told of a list of actions in their order is what it hears of events of which demand 3 holds, the theorem of the order, the caps, and how many are in
-- the way at each 104
pub record Demand3InNumbers (σ : Store) (actions : List Action) (h : List Heard) (τ : Store) : Type 0 where
  pub events : List Event
  pub told : h ≡ map heard events
  pub meets : Demand3OfCode σ actions events τ
  pub order : InCommitOrder σ.lent.values (items.told [] events) τ
  pub caps : WithinCaps σ (reverse actions)
  pub waits : EachWaitsForThose σ (reverse actions)
