-- A call's outcome in numbers, from its answer taken apart: what each exported call comes to; and where a peek's word is, by its plan.
use Prim.Native.Nat.{ℕ, ◌%◌}
use mathlib.Core.Path.{◌≡◌, sym, ap, ◌∙◌}
use Rattle.model.specs.Buffers.{Buffers, Limits, Store, session_at, with_session}
use Rattle.model.specs.Effects.{number, value_of, Part, log_word, shown}
use Rattle.model.specs.Step.{Outcome, outcome, effect, session_of, TakesUnder, GoesBy, TakesRecord}
use Rattle.records.specs.declared.Answer.{Answer}
use Rattle.records.specs.declared.Session.{Session}
use Rattle.records.specs.declared.Sessions.{Sessions}
use Rattle.records.specs.declared.SessionReply.{SessionReply}
use Rattle.records.specs.declared.Call.{Call}
use Rattle.records.specs.declared.Plan.{Plan}
use Rattle.records.specs.declared.Plan.TheVariants.{Refuse, ShowStore, ShowLog}
use Rattle.numbers.specs.declared.NumberReply.{NumberReply}
use Rattle.numbers.specs.Answers.{numbers_of}
use Rattle.c_api.specs.InNumbers.{replied, in_numbers, at, place_of}

pub in_numbers_lem : (a : Answer) (σ : Store) (o : Outcome) (n v : ℕ) → outcome a σ ≡ o → n ≡ number a → v ≡ value_of a → replied n v σ ≡ in_numbers o
in_numbers_lem a σ o n v e p q = rw (p, q) (ap in_numbers e)

-- a call on one record: what the store's function replied, in numbers; under the limits G, and handed no table
pub told_under : (G : Limits) (k : Call) (B C : Buffers) (x : Session) (r : SessionReply) (n : NumberReply) → n ≡ numbers_of r → TakesUnder G k B x r.answer C r.session
    → (ss : Sessions) → session_at ss (session_of k % 16) ≡ x
    → replied n.number n.value (record { lent = C; limits = G; sessions = with_session ss (session_of k % 16) n.session })
    ≡ in_numbers (effect k (record { lent = B; limits = G; sessions = ss }))
told_under G k B C x r n e t ss o = rw e (ap in_numbers (t ss o))

pub told : (k : Call) (B C : Buffers) (x : Session) (r : SessionReply) (n : NumberReply) → n ≡ numbers_of r → TakesRecord k B x r.answer C r.session
    → (G : Limits) → GoesBy k G → (ss : Sessions) → session_at ss (session_of k % 16) ≡ x
    → replied n.number n.value (record { lent = C; limits = G; sessions = with_session ss (session_of k % 16) n.session })
    ≡ in_numbers (effect k (record { lent = B; limits = G; sessions = ss }))
told k B C x r n e t G g = told_under G k B C x r n e (t G g)

-- ---- the three plans of a peek

module _ (s j : ℕ) (σ : Store) {p q : Plan} (e : p ≡ q) where
  pub place_store : {c : ℕ} → p ≡ ShowStore c → at 1 c ≡ place_of (shown s q σ) j
  unfolding shown
  place_store f = rw (sym e ∙ f)

  pub place_log : {k i : ℕ} → log_word i ≡ shown s (ShowLog k) σ → p ≡ ShowLog k → at 2 i ≡ place_of (shown s q σ) j
  place_log {k = k} g f = ap (λ (w : Part). place_of w j) (g ∙ ap (λ (r : Plan). shown s r σ) (sym f ∙ e))

  pub place_none : {r : ℕ} → p ≡ Refuse r → at 0 j ≡ place_of (shown s q σ) j
  unfolding shown
  place_none f = rw (sym e ∙ f)
