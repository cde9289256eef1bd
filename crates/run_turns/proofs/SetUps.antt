-- Set-up but for the locks, by the table in force: refused by its tests, or what is left, of every run of the length given.
use mathlib.Core.Path.{◌≡◌, refl}
use mathlib.Core.List.{List}
use Prim.Native.Nat.{ℕ, ◌≤◌}
use native.Mathlib.Omega.{arith}
use lib.ListN.{length, replicate, length-replicate}
use Rattle.model.specs.Buffers.{Limits, free, idle}
use Rattle.records.specs.declared.Sessions.{Sessions}
use Rattle.records.specs.declared.Lock.{Lock}
use Rattle.records.specs.declared.Refusal.{Refusal}
use Rattle.records.specs.declared.Answer.TheVariants.{Done, Refused}
use Rattle.records.specs.Records.{refusal_number}
use Rattle.refusals.specs.declared.Lengths.{Lengths}
use Rattle.refusals.proofs.Admission.{Fitting, lengths_of, lengths_in}
use Rattle.loads.specs.Loads.{set_up_tests}
use Rattle.loads.proofs.SetUp.{fit, set_refused, set_done}
use Rattle.run_changes.specs.declared.Change.TheVariants.{Clear}
use Rattle.run_turns.specs.declared.Turn.{Turn}
use Rattle.run_changes.specs.Run.{each, lent_on, store_on, count_of, swept, swept_by}
use Rattle.run_turns.specs.Turns.{lengths_on, only_answer, IsSetUpTurn}
use Rattle.run_changes.proofs.Changes.{each_length, clears}
use Rattle.run_turns.proofs.OnRun.{same_lengths}

module _ (G : Limits) (vs cs W : List ℕ) (ss : Sessions) (m : ℕ) (N : Lengths) (f : N ≡ lengths_on (length vs) (length cs) m (length W)) where
  same : (L : List Lock) → length L ≡ m → N ≡ lengths_in (lent_on vs cs L W)
  same L q = same_lengths (length vs) (length cs) m W N f vs cs L refl refl q

  pub set_up_refused : (r : Refusal) → refusal_number r ≡ set_up_tests G.caps N vs cs → (t : Turn) → t ≡ only_answer ss (Refused (refusal_number r)) → IsSetUpTurn G vs cs m W ss W t
  unfolding count_of swept
  set_up_refused r e t h = rw h (tt, λ L q. set_refused (store_on G vs cs L W ss) r (rw (same L q) at e))

  module _ (z : 0 ≡ set_up_tests G.caps N vs cs) where
    fits : (L : List Lock) → length L ≡ m → Fitting (lengths_in (lent_on vs cs L W))
    fits L q = lengths_of (lent_on vs cs L W) (fit (store_on G vs cs L W ss) (rw (same L q) at z))

    pub values_few : length vs ≤ 1024
    values_few = (fits (replicate m free) (length-replicate m free)).few

    pub set_up_done : (words : List ℕ) (rs : Sessions) → words ≡ replicate (length W) 0 → rs ≡ record { records = replicate 16 idle }
        → IsSetUpTurn G vs cs m W ss words (record { reply = record { answer = Done; sessions = rs }; change = Clear (length vs) })
    set_up_done words rs v r = (
      tt,
      λ L q.
          let n : length L ≡ length vs = let l = (fits L q).readers in let k = each_length (λ l. l.readers) L in omega arith in
          set_done (store_on G vs cs L W ss) (rw (same L q) at z)
          (each (λ l. l.readers) (swept_by words (Clear (length vs)) L)) (each (λ l. l.claimant) (swept_by words (Clear (length vs)) L)) (each (λ l. l.exclusive) (swept_by words (Clear (length vs)) L)) words rs
          (clears words (length vs) L n (λ l. l.readers)) (clears words (length vs) L n (λ l. l.claimant)) (clears words (length vs) L n (λ l. l.exclusive)) v r,
    )
