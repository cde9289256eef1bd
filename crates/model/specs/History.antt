-- What a list of actions tells (document 01, "What demand 3 counts"): one definition for each of its words.
-- Every list here, of actions, of events and of items, has the newest first, since a list's tail is then all that went before. A place is an action's
-- ordinal in the list, from 1; what is told where the list starts has place 0. Set-up and the field calls stand outside: `Action` has no case for them.
use Rattle.std.specs.Prelude.{ℕ, suc, Bool, false, cond, not, ◌&&◌, ◌||◌, List, [], ◌∷◌, map, ltb, eqb, length, get_or}
use Rattle.records.specs.declared.Call.{Call}
use Rattle.records.specs.declared.Answer.{Answer}
use Rattle.model.specs.Buffers.{Store}
use Rattle.model.specs.Search.{tally}
use Rattle.model.specs.Load.{load, load_answer}
use Rattle.model.specs.ManyReads.{read_many}
use Rattle.model.specs.Step.{session_of, step, answer_of}
use Rattle.model.specs.Told.{Told, found_by, tells, reads_tell, begins, writes, differs, holds, seals, moves, ends, value_put, ReadOf, read_unless, and_found}

-- ---- actions, answers, and what they tell

-- a call; or many reads, by a session, of cells, into a target of so many words: one action with one place (document 02, Paper 1); or a load of a table of caps,
-- which is no session's (Paper 5)
pub data Action : Type 0 where
  one_call : Call → Action
  many_reads : ℕ → List ℕ → ℕ → Action
  load_caps : List ℕ → Action

-- calls, each an action of its own
abbrev pub as_actions : List Call → List Action
as_actions ks = map {B = Action} one_call ks

-- the session that acts; 16 is none
abbrev pub actor : Action → ℕ
actor (one_call k) = session_of k
actor (many_reads s cs words) = s
actor (load_caps T) = 16

-- an action and its answer; of many reads, whose answer is their last, the values that they obtained; of a write or a hold the value found in its cell, which no answer need show
pub record Event : Type 0 where
  pub action : Action
  pub answer : Answer
  pub values : List ℕ
  pub found : ℕ

abbrev pub event : Call → Answer → Event
event k a = record { action = one_call k; answer = a; values = []; found = 0 }

-- the event with the value found
abbrev pub with_found : ℕ → Event → Event
with_found f e = record { action = e.action; answer = e.answer; values = e.values; found = f }

abbrev pub reads_event : ℕ → List ℕ → ℕ → List ℕ → Answer → Event
reads_event s cs words vs a = record { action = many_reads s cs words; answer = a; values = vs; found = 0 }

abbrev pub load_event : List ℕ → Answer → Event
load_event T a = record { action = load_caps T; answer = a; values = []; found = 0 }

-- what it tells; a load tells nothing of any transaction
abbrev pub action_tells : Action → Answer → List ℕ → ℕ → List Told
action_tells (one_call k) a vs f = tells k a f
action_tells (many_reads s cs words) a vs f = reads_tell cs vs a
action_tells (load_caps T) a vs f = []

abbrev pub tells_of : Event → List Told
tells_of e = action_tells e.action e.answer e.values e.found

-- what an action leaves, and the event that it is
abbrev pub leaves : Action → Store → Store
leaves (one_call k) σ = step k σ
leaves (many_reads s cs words) σ = (read_many s cs words σ).store
leaves (load_caps T) σ = load T σ

abbrev pub event_of : Action → Store → Event
event_of (one_call k) σ = with_found (found_by k (step k σ)) (event k (answer_of k σ))
event_of (many_reads s cs words) σ = reads_event s cs words (read_many s cs words σ).values (read_many s cs words σ).last
event_of (load_caps T) σ = load_event T (load_answer T σ)

-- the store that a list of actions leaves, and its events: each action gets what the one before left
unfoldable pub run : Store → List Action → Store
run σ [] = σ
run σ (k ∷ ks) = leaves k (run σ ks)

unfoldable pub events : Store → List Action → List Event
events σ [] = []
events σ (k ∷ ks) = event_of k (run σ ks) ∷ events σ ks

-- something told, at its place and of its session
pub record Item : Type 0 where
  pub place : ℕ
  pub session : ℕ
  pub told : Told

abbrev pub item : ℕ → ℕ → Told → Item
item q s w = record { place = q; session = s; told = w }

-- one action more, at place q of session s: what it tells, all at that place
abbrev pub add : ℕ → ℕ → List Told → List Item → List Item
add q s [] h = h
add q s (w ∷ ws) h = item q s w ∷ add q s ws h

-- what events tell, after `start`: what transactions that were open before the first action have told, all of it at place 0; `[]` after a set-up. Which starts
-- the theorems admit: `Ready` in proofs/Runs.antt
unfoldable pub told : List Item → List Event → List Item
told start [] = start
told start (e ∷ h) = add (suc (length h)) (actor e.action) (tells_of e) (told start h)

-- what a list of actions tells
abbrev pub history : List Item → Store → List Action → List Item
history start σ ks = told start (events σ ks)

-- ---- Transaction: a begin answered 100 and that session's later calls, up to and with an answer 6 or 105 or an abandon answered 100,
-- else to the end of the list; here as what these calls tell. Its name is the place and the session of its begin: the session tells those apart
-- that are open at the start, which share place 0.

pub record Name : Type 0 where
  pub place : ℕ
  pub session : ℕ

abbrev pub name : ℕ → ℕ → Name
name p s = record { place = p; session = s }

-- one thing more that its session tells: its begin, at place p, where it has told nothing; later things, unless it has ended
abbrev pub extend : ℕ → Item → List Item → List Item
extend p i [] = cond (begins i.told && eqb i.place p) (i ∷ []) []
extend p i (j ∷ t) = cond (ends j.told) (j ∷ t) (i ∷ j ∷ t)

-- what it tells so far; nothing where no transaction of that name begins
unfoldable pub transaction : Name → List Item → List Item
transaction x [] = []
transaction x (i ∷ h) = cond (eqb i.session x.session) (extend x.place i (transaction x h)) (transaction x h)

-- it goes on: the newest thing told has not ended it
abbrev pub is_open : List Item → Bool
is_open [] = false
is_open (i ∷ t) = not (ends i.told)

-- ---- Wrote: a cell for which one of its holds answered 101 (document 02, Paper 4), or one of its writes 100 and the last such write's value is not the one found
-- (Paper 2); its last write gives its value there, or the value found where no write came

-- one of its writes to the cell answered 100, of whatever value
unfoldable pub dirtied : List Item → ℕ → Bool
dirtied [] c = false
dirtied (i ∷ t) c = writes i.told c || dirtied t c

-- the last of them is of a value other than the one found
unfoldable pub changed_in : List Item → ℕ → Bool
changed_in [] c = false
changed_in (i ∷ t) c = cond (writes i.told c) (differs i.told) (changed_in t c)

-- one of its holds of the cell answered 101
unfoldable pub held_in : List Item → ℕ → Bool
held_in [] c = false
held_in (i ∷ t) c = holds i.told c || held_in t c

unfoldable pub wrote : List Item → ℕ → Bool
unfolding held_in changed_in
wrote t c = held_in t c || changed_in t c

unfoldable pub value_written : List Item → ℕ → ℕ
value_written [] c = 0
value_written (i ∷ t) c = cond (writes i.told c || (holds i.told c && not (dirtied t c))) (value_put i.told) (value_written t c)

-- the number of cells it wrote, of n
abbrev pub cells_written : ℕ → List Item → ℕ
cells_written n t = tally (wrote t) n

-- ---- Read before writing: each of its reads and holds answered 101 while no write of its own to that cell had answered 100

unfoldable pub reads_before_writing : List Item → List ReadOf
reads_before_writing [] = []
reads_before_writing (i ∷ t) = read_unless (dirtied t) i.told (reads_before_writing t)

-- ---- Found: the value found in the cell at each of its writes answered 100 and holds answered 101

unfoldable pub values_found : List Item → List ReadOf
values_found [] = []
values_found (i ∷ t) = and_found i.told (values_found t)

-- ---- Snapshot: the place of its seal answered 102 or 105; 0 where there is none

unfoldable pub snapshot : List Item → ℕ
snapshot [] = 0
snapshot (i ∷ t) = cond (seals i.told) i.place (snapshot t)

-- ---- Commit: where it wrote no cell, its snapshot; otherwise the place of the advance that brings its answers 103 up to the number of cells
-- it wrote; 0 where there is none

unfoldable pub moves_in : List Item → ℕ
moves_in [] = 0
moves_in (i ∷ t) = cond (moves i.told) (suc (moves_in t)) (moves_in t)

-- the place of its m-th answer 103
unfoldable pub move_number : ℕ → List Item → ℕ
move_number m [] = 0
move_number m (i ∷ t) = cond (moves i.told && eqb (suc (moves_in t)) m) i.place (move_number m t)

unfoldable pub commit : ℕ → List Item → ℕ
commit n t = cond (eqb (cells_written n t) 0) (snapshot t) (move_number (cells_written n t) t)

-- ---- Committed: its commit place is in the list

unfoldable pub committed : ℕ → List Item → Bool
committed n t = ltb 0 (commit n t)

-- ---- Starting value: the cell's value where the list starts

abbrev pub starting_value : List ℕ → ℕ → ℕ
starting_value first c = get_or first c 0
