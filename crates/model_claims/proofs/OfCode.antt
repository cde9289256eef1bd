-- What stands beside demand 3, of code (specs/OfCode.antt): what code that keeps its contract answered and left is the model's (`ran_is`), so what holds of every list
-- of actions in the model holds of code. The events of a list are of its actions.
use Prim.Native.Nat.{ℕ}
use native.Mathlib.Omega.{arith}
use mathlib.Core.Path.{◌≡◌, refl, sym, ap, subst, ◌∙◌}
use mathlib.Core.List.{List, [], ◌∷◌, reverse}
use Rattle.records.specs.declared.Call.TheVariants.{Advance}
use Rattle.model.specs.Buffers.{Store}
use Rattle.model.specs.Caps.{GotWithin, EachGotWithin}
use Rattle.model.specs.Effects.{number}
use Rattle.model.specs.History.{Action, one_call, many_reads, load_caps, Event, tells_of, event_of, run, events}
use Rattle.model.specs.InTheWay.{InTheWay, SealLetsGo, WaitsForThose, EachWaitsForThose}
use Rattle.model.specs.Isolation.{All, Demand3OfCode}
use Rattle.model.specs.Serial.{OneAtATime}
use Rattle.model.specs.Step.{Outcome, answer_of, set_up_effect, set_up}
use Rattle.model.proofs.Caps.{within_caps}
use Rattle.model.proofs.Demand3.{demand3, ran_is}
use Rattle.model.proofs.Waiting.{waits_for_those}
use Rattle.model_claims.specs.Ending.{EachEnds}
use Rattle.model_claims.specs.OfCode.{actions_of, SeriallyEqualOfCode, EachGotWithinOfCode, WithinCapsOfCode, TellsThose, EachWaitsOfCode}
use Rattle.model_claims.specs.Theorems.{OfEveryList, OfCode}
use Rattle.model_claims.proofs.Ending.{each_ends}
use Rattle.model_claims.proofs.InTheWay.{in_the_way, seal_lets_go}
use Rattle.model_claims.proofs.Serial.{serially_equal}

-- what holds of every list in the model holds of code: its answers and its store are the model's
pub of_code : (P : Store → List Action → List Event → Store → Type 0) → OfEveryList P → OfCode P
unfolding set_up_effect
of_code P all φ σ a e n actions h τ r =
    let f = ap (λ (o : Outcome). o.answer) e in
    let g : σ ≡ set_up φ = ap (λ (o : Outcome). o.store) e in
    let i = ran_is σ r in
    rw (i.0, i.1) (subst (λ (σ : Store). P σ actions (events σ (reverse actions)) (run σ (reverse actions))) (sym g) (all φ (ap number (sym f) ∙ n) actions))

-- ---- the events of a list are of its actions

pub actions_run : (σ : Store) (ks : List Action) → actions_of (events σ ks) ≡ ks
unfolding events
actions_run σ [] = refl
actions_run σ (one_call k ∷ ks) = ap (λ (js : List Action). one_call k ∷ js) (actions_run σ ks)
actions_run σ (many_reads s cs words ∷ ks) = ap (λ (js : List Action). many_reads s cs words ∷ js) (actions_run σ ks)
actions_run σ (load_caps T ∷ ks) = ap (λ (js : List Action). load_caps T ∷ js) (actions_run σ ks)

got_within_events : (σ : Store) (ks : List Action) → EachGotWithin σ ks → EachGotWithinOfCode σ (events σ ks)
unfolding events
got_within_events σ [] w = tt
got_within_events σ (k ∷ ks) w = (
  got_within_events σ ks w.0,
  subst (λ (js : List Action). All (GotWithin (run σ js)) (tells_of (event_of k (run σ ks)))) (sym (actions_run σ (k ∷ ks))) w.1,
)

-- an action that is an advance
advance_waits : (σ : Store) (k : Action) (s : ℕ) → (k ≡ one_call (Advance s) → WaitsForThose σ s) → (event_of k σ).action ≡ one_call (Advance s) → TellsThose σ s (event_of k σ).answer
advance_waits σ (one_call k) s w e = let p : k ≡ Advance s = cc in go p
  where
    go : k ≡ Advance s → TellsThose σ s (answer_of k σ)
    go p = rw p (w e)
advance_waits σ (many_reads t cs words) s w e = absurd (let z : ◌≡◌ {A = ℕ} 0 1 = cc in omega arith)
advance_waits σ (load_caps T) s w e = absurd (let z : ◌≡◌ {A = ℕ} 0 1 = cc in omega arith)

waits_events : (σ : Store) (ks : List Action) → EachWaitsForThose σ ks → EachWaitsOfCode σ (events σ ks)
unfolding events
waits_events σ [] w = tt
waits_events σ (k ∷ ks) w = (
  waits_events σ ks w.0,
  λ s e. subst (λ (js : List Action). TellsThose (run σ js) s (event_of k (run σ ks)).answer) (sym (actions_run σ ks)) (advance_waits (run σ ks) k s (w.1 s) e),
)

-- ---- of every list in the model

pub demand3_in_the_model : OfEveryList Demand3OfCode
demand3_in_the_model φ g actions = let d = demand3 φ g actions in record { events = refl; left = refl; isolated = d.isolated; locks = d.locks }

pub serially_equal_in_the_model : OfEveryList (λ σ actions h τ. OneAtATime h → SeriallyEqualOfCode σ.lent.values h τ)
serially_equal_in_the_model φ g actions o = let d = serially_equal φ g actions o in record { reads = d.reads; left = d.left; undisturbed = d.undisturbed }

pub within_caps_in_the_model : OfEveryList (λ σ actions h τ. WithinCapsOfCode σ h τ)
within_caps_in_the_model φ g actions =
    let d = within_caps φ g actions in
    record { table = d.table; stored = d.stored; got = got_within_events (set_up φ) (reverse actions) d.got; logged = d.logged }

pub waits_in_the_model : OfEveryList (λ σ actions h τ. EachWaitsOfCode σ h)
waits_in_the_model φ g actions = waits_events (set_up φ) (reverse actions) (waits_for_those φ g actions)

-- ---- of code

-- where a transaction begins only when none is open, what code reads and leaves is what a store would that runs one transaction at a time
pub serially_equal_of_code : OfCode (λ σ actions h τ. OneAtATime h → SeriallyEqualOfCode σ.lent.values h τ)
serially_equal_of_code = of_code (λ σ actions h τ. OneAtATime h → SeriallyEqualOfCode σ.lent.values h τ) serially_equal_in_the_model

-- 105 ends committed transactions, 6 and an abandon others
pub each_ends_of_code : OfCode (λ σ actions h τ. EachEnds σ.lent.values h)
each_ends_of_code = of_code (λ σ actions h τ. EachEnds σ.lent.values h) each_ends

-- who is in another's way in the store that code leaves, and what a seal does next
pub in_the_way_of_code : OfCode (λ σ actions h τ. InTheWay τ)
in_the_way_of_code = of_code (λ σ actions h τ. InTheWay τ) in_the_way

pub seal_lets_go_of_code : OfCode (λ σ actions h τ. (s : ℕ) → SealLetsGo τ s)
seal_lets_go_of_code = of_code (λ σ actions h τ. (s : ℕ) → SealLetsGo τ s) seal_lets_go

-- no value that code answered or left is above its cap
pub each_within_caps_of_code : OfCode (λ σ actions h τ. WithinCapsOfCode σ h τ)
each_within_caps_of_code = of_code (λ σ actions h τ. WithinCapsOfCode σ h τ) within_caps_in_the_model

-- the numbers that code told with 104
pub each_waits_of_code : OfCode (λ σ actions h τ. EachWaitsOfCode σ h)
each_waits_of_code = of_code (λ σ actions h τ. EachWaitsOfCode σ h) waits_in_the_model
