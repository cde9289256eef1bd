-- One after the other, beside demand 3: where a transaction begins only when none is open, what is read and what is left is that of a store that runs one
-- transaction at a time.
use Rattle.std.specs.Prelude.{ℕ, ◌≡◌, true, false, cond, List, [], ◌∷◌, eqb, get_or, set}
use Rattle.records.specs.declared.Answer.{Answer}
use Rattle.model.specs.Buffers.{Store}
use Rattle.model.specs.History.{Action, Event, tells_of, run, events, Item, told, history, Name, transaction, is_open}
use Rattle.model.specs.Isolation.{All}
use Rattle.model.specs.Effects.{number}
use Rattle.model.specs.Told.{Told, began, got, put, held, sealed, moved, ended, begins, WhereGot}

-- ---- the serial store

-- its values, and the draft that the open transaction works on
pub record Serial : Type 0 where
  pub values : List ℕ
  pub draft : List ℕ

-- a begin copies the values to the draft; a write changes the draft, whether or not its value is the one found; a hold changes nothing
abbrev pub drafted : Told → Serial → Serial
drafted began z = record { values = z.values; draft = z.values }
drafted (got c v) z = z
drafted (put c v f) z = record { values = z.values; draft = set z.draft c v }
drafted (held c v f) z = z
drafted sealed z = z
drafted moved z = z
drafted ended z = z

abbrev pub drafted_by : List Told → Serial → Serial
drafted_by [] z = z
drafted_by (w ∷ ws) z = drafted w (drafted_by ws z)

-- the last answer, 105, copies the draft to the values; `ended` does not say whether the transaction committed
unfoldable pub serial_step : Event → Serial → Serial
serial_step e z = cond (eqb (number e.answer) 105) (record { values = z.draft; draft = z.draft }) (drafted_by (tells_of e) z)

unfoldable pub serial : List ℕ → List Event → Serial
serial first [] = record { values = first; draft = first }
serial first (e ∷ h) = serial_step e (serial first h)

-- ---- the claim

-- no transaction is open
abbrev pub NoneOpen : List Item → Type 0
NoneOpen h = (x : Name) → is_open (transaction x h) ≡ false

-- a transaction begins only when none is open
abbrev pub OneAtATime : List Event → Type 0
OneAtATime [] = Unit
OneAtATime (e ∷ h) = OneAtATime h × All (λ (w : Told). begins w ≡ true → NoneOpen (told [] h)) (tells_of e)

-- a value that was got is the draft's
abbrev pub ReadsSerially : List ℕ → List Event → Type 0
ReadsSerially first [] = Unit
ReadsSerially first (e ∷ h) = ReadsSerially first h × All (WhereGot (λ c v. v ≡ get_or (serial first h).draft c 0)) (tells_of e)

-- nobody is in the way: no answer is 6 or 104
abbrev pub Undisturbed : Answer → Type 0
Undisturbed a = ((number a ≡ 6) → ⊥) × ((number a ≡ 104) → ⊥)

-- of a list of actions, the newest first, from the store σ; `serially_equal` proves it of what a set-up answered 100 left, where `OneAtATime` holds
pub record SeriallyEqual (σ : Store) (ks : List Action) : Type 0 where
  pub reads : ReadsSerially σ.lent.values (events σ ks)
  pub left : NoneOpen (history [] σ ks) → (run σ ks).lent.values ≡ (serial σ.lent.values (events σ ks)).values
  pub undisturbed : All (λ (e : Event). Undisturbed e.answer) (events σ ks)
