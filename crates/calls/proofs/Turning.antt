-- What each way out of a call's function leaves is the turn of its plan.
use mathlib.Core.Path.{◌≡◌}
use mathlib.Core.List.{List}
use Prim.Native.Nat.{ℕ}
use lib.ListN.{get_or}
use Rattle.model.specs.Buffers.{idle, running, with_entry, move_to, appended, updated, marked}
use Rattle.model.specs.Turns.{leaves, turn_of}
use Rattle.records.specs.declared.Session.{Session}
use Rattle.records.specs.declared.Answer.TheVariants as say
use Rattle.records.specs.declared.Plan.{Plan}
use Rattle.records.specs.declared.Plan.TheVariants.{Start, Tell, Enter, Update, EnterUpdate, Mark, EnterMark, Cancel, CommitReads, BeginPromotion}
use Rattle.records.specs.declared.Change.TheVariants as to
use Rattle.records.specs.declared.Turn.{Turn}

-- p is the plan
module _ (vs log : List ℕ) (x : Session) (p : Plan) where
  module _ (t : Turn) where
    pub turn_started : (y : Session) → p ≡ Start → y ≡ running → t ≡ record { answer = say.Done; session = y; change = to.Keep }
        → leaves t.answer vs log t.session t.change ≡ turn_of p vs log x
    unfolding turn_of
    turn_started y h i f = rw (h, f, i)

    pub turn_told : (v : ℕ) → p ≡ Tell v → t ≡ record { answer = say.Value v; session = x; change = to.Keep }
        → leaves t.answer vs log t.session t.change ≡ turn_of p vs log x
    unfolding turn_of
    turn_told v h f = rw (h, f)

    pub turn_updated : (k v : ℕ) (W : List ℕ) → p ≡ Update k v → W ≡ updated log k v → t ≡ record { answer = say.Done; session = x; change = to.Keep }
        → leaves t.answer vs W t.session t.change ≡ turn_of p vs log x
    unfolding turn_of
    turn_updated k v W h i f = rw (h, f, i)

    pub turn_entered : (c v : ℕ) (W : List ℕ) → p ≡ Enter c → v ≡ get_or vs c 0 → W ≡ appended log x.count c v
        → t ≡ record { answer = say.Value v; session = with_entry x; change = to.Join c } → leaves t.answer vs W t.session t.change ≡ turn_of p vs log x
    unfolding turn_of
    turn_entered c v W h i j f = rw (h, f, j, i)

    pub turn_enter_updated : (c v u : ℕ) (U W : List ℕ) → p ≡ EnterUpdate c v → u ≡ get_or vs c 0 → U ≡ appended log x.count c u → W ≡ updated U x.count v
        → t ≡ record { answer = say.Done; session = with_entry x; change = to.Join c } → leaves t.answer vs W t.session t.change ≡ turn_of p vs log x
    unfolding turn_of
    turn_enter_updated c v u U W h i j k f = rw (h, f, k, j, i)

    pub turn_marked : (k v : ℕ) (W : List ℕ) → p ≡ Mark k v → W ≡ marked log k → t ≡ record { answer = say.Value v; session = x; change = to.Keep }
        → leaves t.answer vs W t.session t.change ≡ turn_of p vs log x
    unfolding turn_of
    turn_marked k v W h i f = rw (h, f, i)

    pub turn_enter_marked : (c v : ℕ) (U W : List ℕ) → p ≡ EnterMark c → v ≡ get_or vs c 0 → U ≡ appended log x.count c v → W ≡ marked U x.count
        → t ≡ record { answer = say.Value v; session = with_entry x; change = to.Join c } → leaves t.answer vs W t.session t.change ≡ turn_of p vs log x
    unfolding turn_of
    turn_enter_marked c v U W h i j k f = rw (h, f, k, j, i)

  module _ (y : Session) where
    pub turn_cancelled : p ≡ Cancel → y ≡ idle → leaves say.Done vs log y to.Withdraw ≡ turn_of p vs log x
    unfolding turn_of
    turn_cancelled h k = rw (h, k)

    pub turn_committed : p ≡ CommitReads → y ≡ idle → leaves say.Committed vs log y to.DropReads ≡ turn_of p vs log x
    unfolding turn_of
    turn_committed h k = rw (h, k)

    pub turn_sealed : p ≡ BeginPromotion → y ≡ move_to 2 0 x → leaves say.Sealed vs log y to.DropReads ≡ turn_of p vs log x
    unfolding turn_of
    turn_sealed h k = rw (h, k)
