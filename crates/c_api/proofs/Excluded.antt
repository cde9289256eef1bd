-- What the claim for C excludes by what it says of the numbers told: a number that is not the answer's.
use Prim.Native.Nat.{ℕ}
use native.Mathlib.Omega.{arith}
use mathlib.Core.Path.{◌≡◌, ◌∙◌, ap}
use mathlib.Core.List.{List, [], ◌∷◌, map}
use Rattle.records.specs.declared.Call.TheVariants.{Read}
use Rattle.model.specs.Buffers.{Store}
use Rattle.model.specs.Computing.{computing, counting}
use Rattle.model.specs.History.{one_call, events}
use Rattle.model.specs.Words.{midway}
use Rattle.c_api.specs.InNumbers.{Heard, called, called_many, called_load, heard, Demand3InNumbers}

abbrev newest_heard : List Heard → ℕ
newest_heard [] = 0
newest_heard (called k n v ∷ h) = n
newest_heard (called_many s cs words n vs ∷ h) = n
newest_heard (called_load T n ∷ h) = n

pub heard_another : {τ : Store} → Demand3InNumbers (midway 1 4 16 0) (one_call (Read 1 1) ∷ []) (called (Read 1 1) 3 0 ∷ []) τ → ⊥
heard_another p = go (p.told ∙ ap (map heard) p.meets.events)
  where
    go : called (Read 1 1) 3 0 ∷ [] ≡ map heard (events (midway 1 4 16 0) (one_call (Read 1 1) ∷ [])) → ⊥
    go e = unfold midway computing counting in let z : ◌≡◌ {A = ℕ} 3 101 = ap newest_heard e in omega arith
