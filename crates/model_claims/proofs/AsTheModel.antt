-- Of a list as the model takes it, what is said of code (specs/OfCode.antt) is no less than what crate model says: whoever has the one has the other. So what excludes a
-- store or a list there excludes it here.
use mathlib.Core.Path.{◌≡◌, refl, sym, subst}
use mathlib.Core.List.{List, [], ◌∷◌}
use Rattle.records.specs.declared.Call.TheVariants.{Advance}
use Rattle.model.specs.Buffers.{Store}
use Rattle.model.specs.Caps.{GotWithin, EachGotWithin, WithinCaps}
use Rattle.model.specs.History.{Action, one_call, many_reads, load_caps, tells_of, event_of, run, events}
use Rattle.model.specs.InTheWay.{EachWaitsForThose}
use Rattle.model.specs.Isolation.{All}
use Rattle.model.specs.Serial.{SeriallyEqual}
use Rattle.model_claims.specs.OfCode.{SeriallyEqualOfCode, EachGotWithinOfCode, WithinCapsOfCode, TellsThose, EachWaitsOfCode}
use Rattle.model_claims.proofs.OfCode.{actions_run}

pub serial_as_the_model : (σ : Store) (ks : List Action) → SeriallyEqualOfCode σ.lent.values (events σ ks) (run σ ks) → SeriallyEqual σ ks
serial_as_the_model σ ks d = record { reads = d.reads; left = d.left; undisturbed = d.undisturbed }

got_as_the_model : (σ : Store) (ks : List Action) → EachGotWithinOfCode σ (events σ ks) → EachGotWithin σ ks
unfolding events
got_as_the_model σ [] w = tt
got_as_the_model σ (k ∷ ks) w = (
  got_as_the_model σ ks w.0,
  subst (λ (js : List Action). All (GotWithin (run σ js)) (tells_of (event_of k (run σ ks)))) (actions_run σ (k ∷ ks)) w.1,
)

pub caps_as_the_model : (σ : Store) (ks : List Action) → WithinCapsOfCode σ (events σ ks) (run σ ks) → WithinCaps σ ks
caps_as_the_model σ ks w = record { table = w.table; stored = w.stored; got = got_as_the_model σ ks w.got; logged = w.logged }

event_action : (k : Action) (σ : Store) → (event_of k σ).action ≡ k
event_action (one_call k) σ = refl
event_action (many_reads s cs words) σ = refl
event_action (load_caps T) σ = refl

pub waits_as_the_model : (σ : Store) (ks : List Action) → EachWaitsOfCode σ (events σ ks) → EachWaitsForThose σ ks
unfolding events
waits_as_the_model σ [] w = tt
waits_as_the_model σ (k ∷ ks) w = (
  waits_as_the_model σ ks w.0,
  λ s e.
      let told : TellsThose (run σ ks) s (event_of k (run σ ks)).answer =
      subst (λ (js : List Action). TellsThose (run σ js) s (event_of k (run σ ks)).answer) (actions_run σ ks)
      (w.1 s (subst (λ (j : Action). j ≡ one_call (Advance s)) (sym (event_action k (run σ ks))) e))
      in
      subst (λ (j : Action). TellsThose (run σ ks) s (event_of j (run σ ks)).answer) e told,
)
