-- The claim of Serial.antt meets two lists of actions: a transaction that writes and one after it that reads, to which it applies, and the listing of
-- document 01, in which two transactions are open at a time. Whether one begins while another is open is a test, since none begins past the list's end.
use mathlib.Core.Path.{◌≡◌, refl, ◌∙◌}
use mathlib.Core.Bool.{Bool, true, false, cond, ◌&&◌}
use mathlib.Core.List.{List, [], ◌∷◌, ◌++◌, map, reverse}
use lib.ListN.{replicate}
use Rattle.records.specs.declared.Call.TheVariants.{Begin, Read, Write, Seal, Advance}
use Rattle.records.specs.declared.Answer.{Answer}
use Rattle.records.specs.declared.Answer.TheVariants.{Done, Value, Sealed, Moved, Waiting, Committed, Refused}
use Rattle.model.specs.Buffers.{ours, Store, idle}
use Rattle.model.specs.Computing.{computing, counting}
use Rattle.model.specs.History.{Action, one_call, many_reads, as_actions, Event, tells_of, run, events, told}
use Rattle.model.specs.Isolation.{All}
use Rattle.model.specs.Serial.{serial_step, serial, OneAtATime, SeriallyEqual}
use Rattle.model.specs.Effects.{number}
use Rattle.model.specs.Step.{set_up_answer, set_up}
use Rattle.model.specs.Told.{Told, begins}
use Rattle.model.proofs.Names.{none_open, none_open_lem, open_none}
use Rattle.model_claims.proofs.Serial.{serially_equal}
use Rattle.model.proofs.Tools.{test, clash, both_l, both_r}

-- ---- the test

-- where something told is a begin, b
begins_if : Bool → List Told → Bool
begins_if b [] = true
begins_if b (w ∷ ws) = cond (begins w) b true && begins_if b ws

begins_all : {A : Type 0} (b : Bool) → (b ≡ true → A) → (ws : List Told) → begins_if b ws ≡ true → All (λ (w : Told). begins w ≡ true → A) ws
unfolding begins_if
begins_all b f [] t = tt
begins_all b f (w ∷ ws) t = (λ y. f (rw y at (both_l (cond (begins w) b true) (begins_if b ws) t)), begins_all b f ws (both_r (cond (begins w) b true) (begins_if b ws) t))

all_begins : {A : Type 0} (b : Bool) → (A → b ≡ true) → (ws : List Told) → All (λ (w : Told). begins w ≡ true → A) ws → begins_if b ws ≡ true
unfolding begins_if
all_begins b f [] a = refl
all_begins b f (w ∷ ws) a = rw (all_begins b f ws a.1) (test (begins w) (λ y. rw (y, f (a.0 y))) (λ y. rw y))

unfoldable one_at_a_time : List Event → Bool
one_at_a_time [] = true
one_at_a_time (e ∷ h) = one_at_a_time h && begins_if (none_open (told [] h)) (tells_of e)

passes : (h : List Event) → one_at_a_time h ≡ true → OneAtATime h
unfolding one_at_a_time
passes [] t = tt
passes (e ∷ h) t =
    let b = none_open (told [] h) in
    (passes h (both_l (one_at_a_time h) (begins_if b (tells_of e)) t), begins_all b (none_open_lem (told [] h)) (tells_of e) (both_r (one_at_a_time h) (begins_if b (tells_of e)) t))

passed : (h : List Event) → OneAtATime h → one_at_a_time h ≡ true
unfolding one_at_a_time
passed [] o = refl
passed (e ∷ h) o = rw (passed h o.0) (all_begins (none_open (told [] h)) (open_none (told [] h)) (tells_of e) o.1)

-- ---- the lists, from two cells of class 2 with values 3 and 5

unfoldable pub given : Store
given =
    record {
      lent = record {
        values = 3 ∷ 5 ∷ [];
        classes = 2 ∷ 2 ∷ [];
        locks = record { readers = 0 ∷ 0 ∷ []; claimants = 16 ∷ 16 ∷ []; exclusives = 0 ∷ 0 ∷ [] };
        logs = replicate 2048 0;
      };
      limits = ours;
      sessions = record { records = replicate 16 idle };
    }

unfoldable pub made : List Action → List Event
made actions = events (set_up given) (reverse actions)

-- session 0 reads and writes cell 0; then session 1 reads both cells in one call
unfoldable pub in_turn : List Action
in_turn = as_actions (Begin 0 ∷ Read 0 0 ∷ Write 0 0 4 ∷ Seal 0 ∷ Advance 0 ∷ Advance 0 ∷ Advance 0 ∷ Begin 1 ∷ []) ++ many_reads 1 (0 ∷ 1 ∷ []) 2 ∷ one_call (Seal 1) ∷ []

-- the listing of document 01
unfoldable pub at_once : List Action
at_once = as_actions (Begin 0 ∷ Begin 1 ∷ Read 0 0 ∷ Read 1 0 ∷ Write 0 0 4 ∷ Write 1 0 2 ∷ Seal 0 ∷ Seal 1 ∷ Advance 0 ∷ Advance 1 ∷ Advance 0 ∷ Advance 0 ∷ Advance 0 ∷ [])

answers : List Action → List Answer
answers actions = reverse (map (λ (e : Event). e.answer) (made actions))

record Computed : Type 0 where
  set_up_lem : number (set_up_answer given) ≡ 100
  serial_list : one_at_a_time (made in_turn) ≡ true
  serial_answers : answers in_turn ≡ Done ∷ Value 3 ∷ Done ∷ Sealed ∷ Moved ∷ Moved ∷ Committed ∷ Done ∷ Value 5 ∷ Committed ∷ []
  serial_values_read : map (λ (e : Event). e.values) (made in_turn) ≡ [] ∷ (4 ∷ 5 ∷ []) ∷ replicate 8 []
  serial_open : none_open (told [] (made in_turn)) ≡ true
  serial_values : (serial (set_up given).lent.values (made in_turn)).values ≡ 4 ∷ 5 ∷ []
  other_list : one_at_a_time (made at_once) ≡ false
  other_answers : answers at_once ≡ Done ∷ Done ∷ Value 3 ∷ Value 3 ∷ Done ∷ Done ∷ Sealed ∷ Sealed ∷ Waiting 1 ∷ Refused 6 ∷ Moved ∷ Moved ∷ Committed ∷ []

computed : Computed
unfolding given made in_turn at_once answers none_open begins_if one_at_a_time serial_step serial computing counting
computed =
    record { set_up_lem = refl; serial_list = refl; serial_answers = refl; serial_values_read = refl; serial_open = refl; serial_values = refl; other_list = refl; other_answers = refl }

-- the first list is one that the claim is about; none is open at its end, and the values left are the serial store's
pub in_turn_lem : SeriallyEqual (set_up given) (reverse in_turn)
unfolding made
in_turn_lem = serially_equal given computed.set_up_lem in_turn (passes (made in_turn) computed.serial_list)

pub in_turn_left : (run (set_up given) (reverse in_turn)).lent.values ≡ 4 ∷ 5 ∷ []
unfolding made
in_turn_left = in_turn_lem.left (none_open_lem (told [] (made in_turn)) computed.serial_open) ∙ computed.serial_values

-- the listing is none: session 1 begins while session 0's transaction is open
pub at_once_lem : OneAtATime (events (set_up given) (reverse at_once)) → ⊥
unfolding made
at_once_lem o = clash (one_at_a_time (made at_once)) (passed (made at_once) o) computed.other_list
