-- What each field of `Promised` (specs/Theorems.antt) excludes: an instance of its claim, through that field.
use Prim.Native.Nat.{ℕ}
use mathlib.Core.Path.{◌≡◌, refl, subst}
use mathlib.Core.Bool.{false}
use mathlib.Core.List.{List, [], ◌∷◌, reverse}
use Rattle.records.specs.declared.Answer.TheVariants.{Done, Committed}
use Rattle.records.specs.declared.Call.TheVariants.{Begin, Read, Advance}
use Rattle.model.specs.Buffers.{Store}
use Rattle.model.specs.Cases.{state, session, store_with}
use Rattle.model.specs.CommitOrder.{InCommitOrder}
use Rattle.model.specs.Computing.{computing, counting}
use Rattle.model.specs.History.{Action, one_call, Event, event, run, events, told}
use Rattle.model.specs.Serial.{OneAtATime}
use Rattle.model.specs.Words.{midway}
use Rattle.model.proofs.Tools.{clash}
use Rattle.model_claims.specs.Ending.{EachEnds}
use Rattle.model_claims.specs.Theorems.{Promised}
use Rattle.model_claims.proofs.AsTheModel.{serial_as_the_model, caps_as_the_model, waits_as_the_model}
use Rattle.model_claims.proofs.EndingExcluded.{uncommitted_105}
use Rattle.model_claims.proofs.Excluded.{first, held_four, covered_misread, not_isolated}
use Rattle.model_claims.proofs.ReadClaims.{reader_sealed, left_a_reader, each_waits_not, got_above, reads_another}

pub promised_isolated : {σ τ : Store} {actions : List Action} → σ.lent.values ≡ first → Promised σ actions held_four τ → ⊥
promised_isolated e p = not_isolated e p.demand3

pub promised_ends : {σ τ : Store} {actions : List Action} → σ.lent.values ≡ first → Promised σ actions (event (Advance 0) Committed ∷ event (Begin 0) Done ∷ []) τ → ⊥
promised_ends e p = uncommitted_105 (subst (λ (vs : List ℕ). EachEnds vs (event (Advance 0) Committed ∷ event (Begin 0) Done ∷ [])) e p.ends)

pub promised_in_order : {σ τ : Store} {actions : List Action} → σ.lent.values ≡ first → Promised σ actions held_four τ → ⊥
promised_in_order {τ = τ} e p = covered_misread (subst (λ (vs : List ℕ). InCommitOrder vs (told [] held_four) τ) e p.order)

-- of a list as the model takes it
abbrev PromisedOf : Store → List Action → Type 0
PromisedOf σ ks = Promised σ (reverse ks) (events σ ks) (run σ ks)

pub promised_serial : PromisedOf (midway 1 4 16 0) (one_call (Read 1 0) ∷ []) → ⊥
promised_serial p = reads_another (serial_as_the_model _ _ (p.serial one))
  where
    one : OneAtATime (events (midway 1 4 16 0) (one_call (Read 1 0) ∷ []))
    one = unfold midway computing counting in (tt, (λ e. absurd (clash false e refl), tt))

pub promised_caps : PromisedOf (midway 1 9 16 0) (one_call (Read 1 0) ∷ []) → ⊥
promised_caps p = got_above (caps_as_the_model _ _ p.caps)

pub promised_in_the_way : {σ : Store} {actions : List Action} {h : List Event} → Promised σ actions h (midway 2 3 16 0) → ⊥
promised_in_the_way p = reader_sealed p.in_the_way

pub promised_lets_go : {σ : Store} {actions : List Action} {h : List Event}
    → Promised σ actions h (store_with 1 (state (session 1 0 0) [] (3 ∷ 5 ∷ []) (2 ∷ 0 ∷ []) (16 ∷ 16 ∷ []) (0 ∷ 0 ∷ []))) → ⊥
promised_lets_go p = left_a_reader (p.lets_go 1)

-- a reader of cell 0 that no list leaves, and session 1 promoting there
abbrev stray : Store
stray = store_with 1 (state (session 2 1 0) (0 ∷ 8 ∷ 4 ∷ 1 ∷ []) (3 ∷ 5 ∷ []) (4 ∷ 0 ∷ []) (16 ∷ 16 ∷ []) (0 ∷ 0 ∷ []))

pub promised_waits : PromisedOf stray (one_call (Advance 1) ∷ []) → ⊥
promised_waits p = each_waits_not (waits_as_the_model _ _ p.waits)
