-- One after the other: what it claims is `SeriallyEqual` of model/specs/Serial.antt. Along a list in which a transaction begins only
-- when none is open, the serial store follows the ledger action by action; with none open the store's values and the serial store's are the last committed.
use Prim.Native.Nat.{ℕ, ◌<◌}
use mathlib.Core.Path.{◌≡◌, refl, sym, ◌∙◌, subst}
use mathlib.Core.Bool.{false}
use mathlib.Core.List.{List, [], ◌∷◌, reverse}
use lib.Seq.{ext_get_or}
use Rattle.model.specs.Buffers.{Store, fresh}
use Rattle.model.specs.Serial.{serial, NoneOpen, OneAtATime, ReadsSerially, Undisturbed, SeriallyEqual}
use Rattle.model.specs.History.{Action, Event, tells_of, event_of, run, events, name, history, transaction, is_open}
use Rattle.model.specs.Isolation.{All}
use Rattle.model.specs.Effects.{number}
use Rattle.model.specs.Step.{set_up_answer, set_up}
use Rattle.model.proofs.Demand3.{set_up_fresh}
use Rattle.model.proofs.Invariant.{latest, all_map, Inv}
use Rattle.model.proofs.Ledger.{blank, ledger}
use Rattle.model.proofs.Roles.{flip}
use Rattle.model.proofs.Runs.{inv_fresh, ready, ledger_of, inv_run, match_run}
use Rattle.model_claims.proofs.SerialCalls.{Serially, serially}
use Rattle.model_claims.proofs.SerialLedger.{Follows}
use Rattle.model_claims.proofs.SerialLocks.{closed_out, value_latest}
use Rattle.model.proofs.Tools.{clash}

-- from any store with the invariant and no transaction open
module _ (φ : Store) (I₀ : Inv φ.lent.values φ blank) where
  -- no transaction of the list is open: none of the ledger is, since the list tells the ledger's open ones
  none_live : (ks : List Action) → NoneOpen (history [] φ ks) → (s : ℕ) → ((ledger_of (ready φ I₀) ks).mine s).live ≡ false
  none_live ks h s =
      let t = (ledger_of (ready φ I₀) ks).mine s in
      let x = name t.began s in
      flip t.live
      (λ l. clash (is_open (transaction x (history [] φ ks))) ((match_run (ready φ I₀) ks).mine s l) (h x))

  module _ (k : Action) (ks : List Action) (F : Follows φ.lent.values (ledger_of (ready φ I₀) ks) (serial φ.lent.values (events φ ks))) where
    one_more : OneAtATime (events φ (k ∷ ks)) → Serially φ.lent.values (ledger_of (ready φ I₀) ks) (serial φ.lent.values (events φ ks)) (event_of k (run φ ks))
    unfolding events
    one_more o = serially (inv_run (ready φ I₀) ks) F k (all_map (λ w a b. none_live ks (a b)) (tells_of (event_of k (run φ ks))) o.1)

  follows_run : (ks : List Action) → OneAtATime (events φ ks) → Follows φ.lent.values (ledger_of (ready φ I₀) ks) (serial φ.lent.values (events φ ks))
  unfolding events ledger serial latest
  follows_run [] o =
      record {
        alone = λ s u l m. absurd (clash false l refl);
        closed = λ _ c lc. refl;
        works = λ s l. absurd (clash false l refl);
        lengths = (refl, refl);
      }
  follows_run (k ∷ ks) o = (one_more k ks (follows_run ks o.0) o).follows

  reads_run : (ks : List Action) → OneAtATime (events φ ks) → ReadsSerially φ.lent.values (events φ ks)
  unfolding events
  reads_run [] o = tt
  reads_run (k ∷ ks) o = (reads_run ks o.0, (one_more k ks (follows_run ks o.0) o).read)

  undisturbed_run : (ks : List Action) → OneAtATime (events φ ks) → All (λ (e : Event). Undisturbed e.answer) (events φ ks)
  unfolding events
  undisturbed_run [] o = tt
  undisturbed_run (k ∷ ks) o = ((one_more k ks (follows_run ks o.0) o).undisturbed, undisturbed_run ks o.0)

  values_run : (ks : List Action) → OneAtATime (events φ ks) → NoneOpen (history [] φ ks)
      → (run φ ks).lent.values ≡ (serial φ.lent.values (events φ ks)).values
  values_run ks o h =
      let I = inv_run (ready φ I₀) ks in
      let F = follows_run ks o in
      ext_get_or 0 (run φ ks).lent.values (serial φ.lent.values (events φ ks)).values (I.shape.values ∙ sym F.lengths.0)
      (λ c l.
      let lc = subst (λ (m : ℕ). c < m) I.shape.values l in
      value_latest I c lc (λ u. closed_out I u (none_live ks h u) c) ∙ sym (F.closed (none_live ks h) c lc))

  pub serially_equal_from : (actions : List Action) → OneAtATime (events φ (reverse actions)) → SeriallyEqual φ (reverse actions)
  serially_equal_from actions o =
      let ks = reverse actions in
      record { reads = reads_run ks o; left = values_run ks o; undisturbed = undisturbed_run ks o }

-- any store that set-up answers 100, and any list of actions from what it leaves in which a transaction begins only when none is open
pub serially_equal : (σ : Store) → number (set_up_answer σ) ≡ 100 → (actions : List Action)
    → OneAtATime (events (set_up σ) (reverse actions)) → SeriallyEqual (set_up σ) (reverse actions)
serially_equal σ h actions =
    subst (λ (φ : Store). OneAtATime (events φ (reverse actions)) → SeriallyEqual φ (reverse actions)) (sym (set_up_fresh σ h))
    (serially_equal_from (fresh σ.limits σ.lent) (inv_fresh σ.limits σ.lent) actions)
