-- What a refused call leaves, by any number or rolled back by 6, is the turn of its plan.
use mathlib.Core.Path.{◌≡◌}
use mathlib.Core.List.{List}
use Prim.Native.Nat.{ℕ}
use Rattle.model.specs.Buffers.{idle}
use Rattle.model.specs.Turns.{leaves, turn_of}
use Rattle.records.specs.declared.Session.{Session}
use Rattle.records.specs.declared.Answer.TheVariants as say
use Rattle.records.specs.declared.Plan.{Plan}
use Rattle.records.specs.declared.Plan.TheVariants.{Refuse, RollBack}
use Rattle.records.specs.declared.Change.TheVariants as to
use Rattle.records.specs.declared.Turn.{Turn}

-- p is the plan
module _ (vs log : List ℕ) (x : Session) (p : Plan) (t : Turn) where
  pub turn_refused : (r : ℕ) → p ≡ Refuse r → t ≡ record { answer = say.Refused r; session = x; change = to.Keep }
      → leaves t.answer vs log t.session t.change ≡ turn_of p vs log x
  unfolding turn_of
  turn_refused r h f = rw (h, f)

  pub turn_rolled_back : p ≡ RollBack → t ≡ record { answer = say.Refused 6; session = idle; change = to.Withdraw }
      → leaves t.answer vs log t.session t.change ≡ turn_of p vs log x
  unfolding turn_of
  turn_rolled_back h f = rw (h, f)
