-- The two forms agree: unzipping the records into three lists, calling, and zipping the lists is calling on the records.
-- So the contract of a call on the run fixes every lock. Lists of calls on the run are lists of calls that keep the model's contract: `demand3_of_code`
-- of model speaks of them as it stands.
use mathlib.Core.Path.{◌≡◌, refl, sym, ap, ◌∙◌}
use mathlib.Core.List.{List, [], ◌∷◌}
use Prim.Native.Nat.{ℕ}
use Rattle.model.specs.Buffers.{Locks, Limits, Store}
use Rattle.model.specs.Load.{load_effect}
use Rattle.model.specs.Step.{Outcome, outcome, effect, set_up_effect, plan_of}
use Rattle.records.specs.declared.Lock.{Lock}
use Rattle.records.specs.declared.Sessions.{Sessions}
use Rattle.records.specs.declared.Answer.{Answer}
use Rattle.records.specs.declared.Call.{Call}
use Rattle.run_changes.specs.Run.{unzipped, store_on}
use Rattle.lock_records.specs.Forms.{zipped, OutcomeIn}

-- the store that three lists are, under the limits G
abbrev pub store_of : Limits → List ℕ → List ℕ → List ℕ → List ℕ → List ℕ → List ℕ → Sessions → Store
store_of G values classes readers claimants exclusives logs sessions =
    record {
      lent = record { values = values; classes = classes; locks = record { readers = readers; claimants = claimants; exclusives = exclusives }; logs = logs };
      limits = G;
      sessions = sessions;
    }

-- ---- unzipped and zipped

pub zipped_unzipped : (L : List Lock) → zipped (unzipped L).readers (unzipped L).claimants (unzipped L).exclusives ≡ L
zipped_unzipped [] = refl
zipped_unzipped (l ∷ L) = ap (λ (r : List Lock). l ∷ r) (zipped_unzipped L)

pub unzipped_injective : (L M : List Lock) → unzipped L ≡ unzipped M → L ≡ M
unzipped_injective L M e = sym (zipped_unzipped L) ∙ ap (λ (K : Locks). zipped K.readers K.claimants K.exclusives) e ∙ zipped_unzipped M

-- ---- one call, on three lists and on records

-- x is what the number slices are left with, of a store whose three lists are the run L unzipped; y is what the run is left with
module _ (G : Limits) (cs : List ℕ) (x : OutcomeIn Locks) (y : OutcomeIn (List Lock)) (same : outcome y.answer (store_on G y.values cs y.locks y.logs y.sessions)
    ≡ outcome x.answer (store_of G x.values cs x.locks.readers x.locks.claimants x.locks.exclusives x.logs x.sessions)) where
  -- the same answer, values, logs and records; and the records are the lists zipped
  agrees : y ≡ record { answer = x.answer; values = x.values; locks = zipped x.locks.readers x.locks.claimants x.locks.exclusives; logs = x.logs; sessions = x.sessions }
  agrees =
      let a = ap (λ (o : Outcome). o.answer) same in
      let v = ap (λ (o : Outcome). o.store.lent.values) same in
      let l = ap (λ (o : Outcome). o.store.lent.locks) same in
      let w = ap (λ (o : Outcome). o.store.lent.logs) same in
      let s = ap (λ (o : Outcome). o.store.sessions) same in
      let k = sym (zipped_unzipped y.locks) ∙ ap (λ (K : Locks). zipped K.readers K.claimants K.exclusives) l in
      rw (← a, ← v, ← w, ← s, ← k)

-- a call, by the contracts of the two forms
pub calls_agree : (k : Call) (G : Limits) (vs cs : List ℕ) (L : List Lock) (W : List ℕ) (ss : Sessions) (x : OutcomeIn Locks) (y : OutcomeIn (List Lock))
    → outcome x.answer (store_of G x.values cs x.locks.readers x.locks.claimants x.locks.exclusives x.logs x.sessions)
    ≡ effect k (store_of G vs cs (unzipped L).readers (unzipped L).claimants (unzipped L).exclusives W ss)
    → outcome y.answer (store_on G y.values cs y.locks y.logs y.sessions) ≡ effect k (store_on G vs cs L W ss)
    → y ≡ record { answer = x.answer; values = x.values; locks = zipped x.locks.readers x.locks.claimants x.locks.exclusives; logs = x.logs; sessions = x.sessions }
calls_agree k G vs cs L W ss x y e f = agrees G cs x y (f ∙ sym e)

-- set-up
pub set_ups_agree : (G : Limits) (vs cs : List ℕ) (L : List Lock) (W : List ℕ) (ss : Sessions) (x : OutcomeIn Locks) (y : OutcomeIn (List Lock))
    → outcome x.answer (store_of G x.values cs x.locks.readers x.locks.claimants x.locks.exclusives x.logs x.sessions)
    ≡ set_up_effect (store_of G vs cs (unzipped L).readers (unzipped L).claimants (unzipped L).exclusives W ss)
    → outcome y.answer (store_on G y.values cs y.locks y.logs y.sessions) ≡ set_up_effect (store_on G vs cs L W ss)
    → y ≡ record { answer = x.answer; values = x.values; locks = zipped x.locks.readers x.locks.claimants x.locks.exclusives; logs = x.logs; sessions = x.sessions }
set_ups_agree G vs cs L W ss x y e f = agrees G cs x y (f ∙ sym e)

-- a load: the same answer, and the same table and records left
pub loads_agree : (T : List ℕ) (G : Limits) (vs cs : List ℕ) (L : List Lock) (W : List ℕ) (ss : Sessions) (a b : Answer) (X Y : Limits) (rs ts : Sessions)
    → outcome a (store_of X vs cs (unzipped L).readers (unzipped L).claimants (unzipped L).exclusives W rs)
    ≡ load_effect T (store_of G vs cs (unzipped L).readers (unzipped L).claimants (unzipped L).exclusives W ss)
    → outcome b (store_on Y vs cs L W ts) ≡ load_effect T (store_on G vs cs L W ss)
    → (b ≡ a) × ((Y ≡ X) × (ts ≡ rs))
loads_agree T G vs cs L W ss a b X Y rs ts e f =
    let same = f ∙ sym e in
    (ap (λ (o : Outcome). o.answer) same, (ap (λ (o : Outcome). o.store.limits) same, ap (λ (o : Outcome). o.store.sessions) same))

-- a peek goes by the plan, and the plans are the same
pub plans_agree : (k : Call) (G : Limits) (vs cs : List ℕ) (L : List Lock) (W : List ℕ) (ss : Sessions)
    → plan_of k (store_on G vs cs L W ss) ≡ plan_of k (store_of G vs cs (unzipped L).readers (unzipped L).claimants (unzipped L).exclusives W ss)
plans_agree k G vs cs L W ss = refl
