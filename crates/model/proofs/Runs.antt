-- Every list of actions keeps the invariant and a ledger that matches what is told, from any start that has both; what set-up leaves is such a start.
use Prim.Native.Nat.{ℕ, zero, suc, ◌<◌}
use native.Mathlib.Omega.{arith}
use mathlib.Core.Path.{◌≡◌, refl, sym, ◌∙◌, ap, subst}
use mathlib.Core.Logic.{inl}
use mathlib.Core.Bool.{false}
use mathlib.Core.List.{List, [], ◌∷◌}
use lib.ListN.{length, get_or, replicate, length-replicate}
use Rattle.records.specs.declared.Session.{Session}
use Rattle.model.specs.Buffers.{Buffers, Limits, Store, size, idle, session_at, lock_at, fresh}
use Rattle.model.specs.History.{Action, actor, tells_of, event_of, Item, add, run, events, told, history, transaction}
use Rattle.model.specs.Isolation.{All}
use Rattle.model.specs.Readers.{odd, member}
use Rattle.model.specs.Effects.{record_of}
use Rattle.model.specs.Told.{Told}
use Rattle.model.proofs.Effects.{idle_out}
use Rattle.model.proofs.Invariant.{role, latest, all_map, Inv}
use Rattle.model.proofs.Ledger.{Ledger, blank, ledger}
use Rattle.model.proofs.Matching.{Matches}
use Rattle.model.proofs.Preservation.{keep}
use Rattle.model.proofs.Roles.{out, holds, owns}
use Rattle.model.proofs.Settled.{heeds, observe_place}
use Rattle.model.proofs.Tools.{clash}
use Rattle.model.proofs.Words.{empty_committed}

-- ---- set-up

always {ℓ} : {A : Type ℓ} (n i : ℕ) (a : A) → get_or (replicate n a) i a ≡ a
always zero i a = refl
always (suc n) zero a = refl
always (suc n) (suc i) a = always n i a

member_zero : (s : ℕ) → member 0 s ≡ false
unfolding member odd
member_zero zero = refl
member_zero (suc s) = member_zero s

module _ (G : Limits) (B : Buffers) where
  pub first : (s : ℕ) → record_of (fresh G B) s ≡ idle
  unfolding session_at fresh
  first s = always {A = Session} 16 s idle

  bare : (c : ℕ) → lock_at (fresh G B).lent.locks c ≡ record { readers = 0; claimant = 16; exclusive = 0 }
  unfolding lock_at fresh
  bare c = rw (always {A = ℕ} (size B) c 0, always {A = ℕ} (size B) c 16)

  nobody_in : (c s : ℕ) → role (fresh G B) c s ≡ out
  nobody_in c s = idle_out (fresh G B) s c (ap (λ (x : Session). x.phase) (first s))

  pub inv_fresh : Inv (fresh G B).lent.values (fresh G B) blank
  unfolding size fresh
  inv_fresh =
      record {
        shape = record {
          values = refl;
          records = length-replicate {A = Session} 16 idle;
          long = record { readers = length-replicate {A = ℕ} (size B) 0; claimants = length-replicate {A = ℕ} (size B) 16; exclusives = length-replicate {A = ℕ} (size B) 0 };
          logs = length-replicate {A = ℕ} 2048 0;
          counts = λ s. rw (first s) (omega arith);
        };
        locked = λ c lc. rw (bare c)
            (record {
              readers = λ s. member_zero s ∙ sym (ap holds (nobody_in c s));
              owner = λ s h. absurd (clash (owns (role (fresh G B) c s)) h (ap owns (nobody_in c s)));
              alone = λ s t h. absurd (clash (owns (role (fresh G B) c s)) h (ap owns (nobody_in c s)));
              early = λ s e m. absurd (let z : ◌≡◌ {A = ℕ} 0 1 = m in omega arith);
              claimer = inl refl;
            });
        valued = λ c lc.
            record {
              fresh = λ s f e. let o = nobody_in c s in cc;
              due = λ s f e. let o = nobody_in c s in cc;
              settled = λ h. unfold latest in refl;
            };
        link = λ s. rw (first s) refl;
        lawful = tt;
        begun = omega arith;
        old = tt;
        just = tt;
      }

-- ---- every list of actions

events_length : (φ : Store) (ks : List Action) → length (events φ ks) ≡ length ks
unfolding events
events_length φ [] = refl
events_length φ (k ∷ ks) = ap suc (events_length φ ks)

-- one action more tells at its place, after what the list before it tells
pub history_step : (start : List Item) (φ : Store) (k : Action) (ks : List Action)
    → let e = event_of k (run φ ks) in history start φ (k ∷ ks) ≡ add (suc (length ks)) (actor e.action) (tells_of e) (history start φ ks)
unfolding told events
history_step start φ k ks =
    let e = event_of k (run φ ks) in
    ap (λ (m : ℕ). add (suc m) (actor e.action) (tells_of e) (history start φ ks)) (events_length φ ks)

-- what is told is told at the places of the list
abbrev Below : ℕ → List Item → Type 0
Below m h = All (λ (i : Item). i.place < m) h

below_add : (m q s : ℕ) → q < m → (ws : List Told) (h : List Item) → Below m h → Below m (add q s ws h)
below_add m q s l [] h a = a
below_add m q s l (w ∷ ws) h a = (l, below_add m q s l ws h a)

told_before : (start : List Item) → Below 1 start → (φ : Store) (ks : List Action) → Below (suc (length ks)) (history start φ ks)
told_before start b φ [] = unfold told events in b
told_before start b φ (k ∷ ks) =
    let e = event_of k (run φ ks) in
    subst (Below (suc (suc (length ks)))) (sym (history_step start φ k ks))
    (below_add (suc (suc (length ks))) (suc (length ks)) (actor e.action) (omega arith) (tells_of e) (history start φ ks)
    (all_map (λ i l. omega arith) (history start φ ks) (told_before start b φ ks)))

-- from any store and ledger with the invariant
pub inv_from : {start : List ℕ} {φ : Store} {T : Ledger} → Inv start φ T → (ks : List Action) → Inv start (run φ ks) (ledger (length start) T φ ks)
unfolding run ledger
inv_from I [] = I
inv_from I (k ∷ ks) = keep (inv_from I ks) k

-- a start: the invariant, and the ledger of what is told there, all of it at place 0. Transactions may be open, each of a session that runs: it has begun,
-- and may have read and written; none is sealed and none committed (`ready_none_sealed`, Resuming.antt of crate model_claims)
pub record Ready (φ : Store) (h₀ : List Item) (T₀ : Ledger) : Type 0 where
  pub inv : Inv φ.lent.values φ T₀
  pub match : Matches (length φ.lent.values) h₀ T₀
  pub below : All (λ (i : Item). i.place < 1) h₀
  pub place : T₀.place ≡ 1
  pub commits : T₀.commits ≡ []

-- from any start
module _ {φ : Store} {h₀ : List Item} {T₀ : Ledger} (R : Ready φ h₀ T₀) where
  abbrev n : ℕ
  n = length φ.lent.values

  abbrev pub ledger_of : List Action → Ledger
  ledger_of ks = ledger (length φ.lent.values) T₀ φ ks

  pub inv_run : (ks : List Action) → Inv φ.lent.values (run φ ks) (ledger_of ks)
  inv_run = inv_from R.inv

  pub place_is : (ks : List Action) → (ledger_of ks).place ≡ suc (length ks)
  unfolding ledger
  place_is [] = R.place
  place_is (k ∷ ks) = observe_place n (event_of k (run φ ks)) (ledger_of ks) ∙ ap suc (place_is ks)

  pub match_run : (ks : List Action) → Matches (length φ.lent.values) (history h₀ φ ks) (ledger_of ks)
  unfolding ledger
  match_run [] = unfold told events in R.match
  match_run (k ∷ ks) =
      subst (λ (h : List Item). Matches n h (ledger_of (k ∷ ks))) (sym (history_step h₀ φ k ks))
      (heeds (inv_run ks) (match_run ks) (suc (length ks)) (place_is ks) (told_before h₀ R.below φ ks) k)

-- with no transaction open
pub ready : (φ : Store) → Inv φ.lent.values φ blank → Ready φ [] blank
ready φ I =
    record {
      inv = I;
      match = record {
        open' = λ x o. absurd (clash false (unfold transaction in o) refl);
        mine = λ s l. absurd (clash false l refl);
        recorded = tt;
        every = λ x d. clash false (sym (empty_committed (length φ.lent.values)) ∙ (unfold transaction in d)) refl;
        stands = λ x. unfold transaction in tt;
        early = λ x. unfold transaction in tt;
      };
      below = tt;
      place = refl;
      commits = refl;
    }
