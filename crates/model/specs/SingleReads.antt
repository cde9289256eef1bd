-- Many reads against single reads (document 02, Paper 1): the call obtains, is answered, leaves and tells what the session would by reading the cells one by one, in
-- order, to the first read that gets no value. `as_single_reads` in proofs/ManyReads.antt proves it.
use Rattle.std.specs.Prelude.{ℕ, ◌≡◌, cond, List, [], ◌∷◌, ◌++◌, reverse, eqb}
use Rattle.records.specs.declared.Call.{Call}
use Rattle.records.specs.declared.Call.TheVariants.{Read}
use Rattle.records.specs.declared.Answer.{Answer}
use Rattle.model.specs.Buffers.{Store}
use Rattle.model.specs.Effects.{number, value_of}
use Rattle.model.specs.History.{Action, as_actions, Event, tells_of}
use Rattle.model.specs.Isolation.{All}
use Rattle.model.specs.ManyReads.{Reads}
use Rattle.model.specs.Step.{step, answer_of}
use Rattle.model.specs.Told.{Told, reads_tell}

-- the single reads that are made, in order: none after one that is not answered 101
unfoldable pub reads_made : ℕ → List ℕ → Store → List Call
reads_made s [] σ = []
reads_made s (c ∷ cs) σ = Read s c ∷ cond (eqb (number (answer_of (Read s c) σ)) 101) (reads_made s cs (step (Read s c) σ)) []

-- each an action of its own, the newest first
abbrev pub single_reads : ℕ → List ℕ → Store → List Action
single_reads s cs σ = reverse (as_actions (reads_made s cs σ))

-- an event's value, where it is answered 101
abbrev pub value_of101 : Event → List ℕ
value_of101 e = cond (eqb (number e.answer) 101) (value_of e.answer ∷ []) []

-- of events, the newest first: these values in order; the last answer, or a where there is none; all but the newest; and what they tell
abbrev pub values_of : List Event → List ℕ
values_of [] = []
values_of (e ∷ h) = values_of h ++ value_of101 e

abbrev pub last_answer : Answer → List Event → Answer
last_answer a [] = a
last_answer a (e ∷ h) = e.answer

abbrev pub older : List Event → List Event
older [] = []
older (e ∷ h) = h

abbrev pub tells_all : List Event → List Told
tells_all [] = []
tells_all (e ∷ h) = tells_of e ++ tells_all h

-- reads of cells cs after an answer a come to r, and single reads to the events h and the store τ
pub record AsSingle (a : Answer) (cs : List ℕ) (h : List Event) (τ : Store) (r : Reads) : Type 0 where
  pub left : r.store ≡ τ
  pub last : r.last ≡ last_answer a h
  pub values : r.values ≡ values_of h
  -- only the last may be answered other than 101
  pub before : All (λ (e : Event). number e.answer ≡ 101) (older h)
  pub told : reads_tell cs r.values r.last ≡ tells_all h
