-- The first action of a list, which stands last in it, since a list has the newest first: the others go on from what it leaves.
use mathlib.Core.Path.{◌≡◌, refl, ap}
use mathlib.Core.List.{List, [], ◌∷◌, ◌++◌}
use Rattle.model.specs.Buffers.{Store}
use Rattle.model.specs.History.{Action, leaves, event_of, run, events}

pub run_first : (σ : Store) (k : Action) (ks : List Action) → run σ (ks ++ k ∷ []) ≡ run (leaves k σ) ks
unfolding run
run_first σ k [] = refl
run_first σ k (j ∷ ks) = ap (leaves j) (run_first σ k ks)

pub events_first : (σ : Store) (k : Action) (ks : List Action) → events σ (ks ++ k ∷ []) ≡ events (leaves k σ) ks ++ event_of k σ ∷ []
unfolding run events
events_first σ k [] = refl
events_first σ k (j ∷ ks) = rw (run_first σ k ks, events_first σ k ks)
