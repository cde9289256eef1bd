-- What each way out of an advance's function leaves is the turn of its plan.
use mathlib.Core.Path.{◌≡◌, ap}
use mathlib.Core.List.{List}
use mathlib.Core.Bool.{Bool}
use Prim.Native.Nat.{ℕ}
use lib.ListN.{set}
use Rattle.model.specs.Effects.{is_left}
use Rattle.model.specs.Turns.{leaves, turn_of}
use Rattle.records.specs.declared.Session.{Session}
use Rattle.records.specs.declared.Answer.TheVariants as say
use Rattle.records.specs.declared.Plan.{Plan}
use Rattle.records.specs.declared.Plan.TheVariants.{Wait, Acquire, Publish, Release}
use Rattle.records.specs.declared.Change.TheVariants as to
use Rattle.records.specs.declared.Turn.{Turn}
use Rattle.advance.specs.Pieces.{handled_by}
use Rattle.records.specs.declared.SessionReply.{SessionReply}
use Rattle.advance.proofs.Ways.{handled_is, released_is}

-- p is the plan
module _ (vs log : List ℕ) (x : Session) (p : Plan) where
  module _ (t : Turn) where
    pub turn_published : (c v : ℕ) (more : Bool) (d : SessionReply) → p ≡ Publish c v → more ≡ is_left log c x → d ≡ handled_by more x c
        → t ≡ record { answer = say.Moved; session = d.session; change = to.Keep }
        → leaves t.answer (set vs c v) log t.session t.change ≡ turn_of p vs log x
    unfolding turn_of
    turn_published c v more d h m i f = rw (h, f, i, handled_is log x c more m)

  module _ (c : ℕ) where
    pub turn_waiting : (k : ℕ) → p ≡ Wait c k → leaves (say.Waiting k) vs log x (to.Claim c) ≡ turn_of p vs log x
    unfolding turn_of
    turn_waiting k h = rw h

    module _ (more : Bool) (m : more ≡ is_left log c x) (d : SessionReply) (i : d ≡ handled_by more x c) where
      pub turn_acquired : p ≡ Acquire c → leaves say.Moved vs log d.session (to.Acquire c) ≡ turn_of p vs log x
      unfolding turn_of
      turn_acquired h = rw (h, i, handled_is log x c more m)

      pub turn_released : p ≡ Release c → x.phase ≡ 4 → leaves d.answer vs log d.session (to.Vacate c) ≡ turn_of p vs log x
      unfolding turn_of
      turn_released h f = rw (h, i, handled_is log x c more m, released_is log x c more m f)

-- a plan's turn is that of the plan that it is
pub turn_at : (vs log : List ℕ) (x : Session) (p q : Plan) → p ≡ q → turn_of p vs log x ≡ turn_of q vs log x
turn_at vs log x p q e = ap (λ (r : Plan). turn_of r vs log x) e
