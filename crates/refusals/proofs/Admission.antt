-- Refusals 7 and 1, by which every call is admitted: what the number says, and what is known of the buffers past it.
use mathlib.Core.Path.{◌≡◌, refl, sym, ◌∙◌}
use mathlib.Core.Bool.{Bool, true, false}
use Prim.Native.Nat.{ℕ, ◌%◌, ◌<◌, ◌≤◌}
use native.Mathlib.Omega.{arith}
use borrow.Author.Tests.{ltb-true, eqb-true, leb-true}
use lib.ListN.{length}
use lib.Dec.{leb, ltb, eqb}
use Rattle.model.specs.Buffers.{Buffers, Limits, Store, size, lengths_fit, lengths_match}
use Rattle.model.specs.Effects.{answer, after}
use Rattle.model.specs.Step.{outcome, answer_of, step, effect, plan_of, session_of, TakesUnder, TakesRecord}
use Rattle.model.specs.Plans.{table_fits}
use Rattle.records.specs.declared.Refusal.{Refusal}
use Rattle.records.specs.Records.{refusal_number}
use Rattle.records.proofs.Refusals.{nonzero}
use Rattle.records.specs.declared.Session.{Session}
use Rattle.records.specs.declared.Call.{Call}
use Rattle.records.specs.declared.Answer.TheVariants.{Refused}
use Rattle.records.specs.declared.Plan.TheVariants.{Refuse}
use Rattle.model.proofs.Tools.{test, clash, and-false}
use Rattle.model.proofs.Carried.{same_record}
use Rattle.model.proofs.Tables.{goes_fits}
use Rattle.refusals.specs.declared.Lengths as the
use Rattle.refusals.specs.Pieces.{match_of, admission}
pub use Rattle.refusals.specs.Pieces.{lengths_in}

-- what fitting lengths say, one by one
pub record Fitting (l : the.Lengths) : Type 0 where
  pub some : 1 ≤ l.values
  pub few : l.values ≤ 1024
  pub classes : l.classes ≡ l.values
  pub readers : l.readers ≡ l.values
  pub claimants : l.claimants ≡ l.values
  pub exclusives : l.exclusives ≡ l.values
  pub logs : l.logs ≡ 2048

-- the test b is one of those that an answer t, which is true, is made of
must : (t : Bool) → t ≡ true → (b : Bool) → (b ≡ false → t ≡ false) → b ≡ true
must t h b f = test b (λ p. p) (λ p. absurd (clash t h (f p)))

module _ (l : the.Lengths) where
  pub fitting : match_of l ≡ true → Fitting l
  unfolding lengths_match
  fitting h =
      record {
        some = leb-true 1 l.values (must (match_of l) h (leb 1 l.values) (λ p. rw p));
        few = leb-true l.values 1024 (must (match_of l) h (leb l.values 1024) (λ p. rw (p, and-false)));
        classes = eqb-true _ l.values (must (match_of l) h (eqb l.classes l.values) (λ p. rw (p, and-false)));
        readers = eqb-true _ l.values (must (match_of l) h (eqb l.readers l.values) (λ p. rw (p, and-false)));
        claimants = eqb-true _ l.values (must (match_of l) h (eqb l.claimants l.values) (λ p. rw (p, and-false)));
        exclusives = eqb-true _ l.values (must (match_of l) h (eqb l.exclusives l.values) (λ p. rw (p, and-false)));
        logs = eqb-true _ 2048 (must (match_of l) h (eqb l.logs 2048) (λ p. rw (p, and-false)));
      }

  -- past the test of the lengths and the session
  passed_both : (s : ℕ) (fit low : Bool) → match_of l ≡ fit → ltb s 16 ≡ low → 0 ≡ admission (match_of l) s → (fit ≡ true) × (low ≡ true)
  unfolding admission
  passed_both s true true f i e = (refl, refl)
  passed_both s true false f i e = absurd (let w : 0 ≡ 1 = rw (f, i) at e in omega arith)
  passed_both s false low f i e = absurd (let w : 0 ≡ 7 = rw f at e in omega arith)

  pub admits : (s : ℕ) → 0 ≡ admission (match_of l) s → (match_of l ≡ true) × (s < 16)
  admits s e = let w = passed_both s (match_of l) (ltb s 16) refl refl e in (w.0, ltb-true s 16 w.1)

-- what the code tests is the model's test
pub match_is : (B : Buffers)
    → lengths_match (length B.values) (length B.classes) (length B.locks.readers) (length B.locks.claimants) (length B.locks.exclusives) (length B.logs) ≡ lengths_fit B
unfolding lengths_match lengths_fit size
match_is B = refl

-- the same of buffers
abbrev pub Lengths : Buffers → Type 0
Lengths B = Fitting (lengths_in B)

pub lengths_of : (B : Buffers) → lengths_fit B ≡ true → Lengths B
lengths_of B h = fitting (lengths_in B) (match_is B ∙ h)

-- admitted: the lengths fit, and the session is one of sixteen
pub record Admitted (B : Buffers) (s : ℕ) : Type 0 where
  pub fit : lengths_fit B ≡ true
  pub lengths : Lengths B
  pub low : s < 16

-- a refusal leaves all as it was
pub refuses : (k : Call) (σ : Store) (r : ℕ) → Refuse r ≡ plan_of k σ → outcome (Refused r) σ ≡ effect k σ
unfolding effect answer_of step answer after
refuses k σ r e = rw (← e)

-- a table that is not of 16 caps is 7
pub table_refused : (G : Limits) (k : Call) (B : Buffers) (x : Session) → table_fits k G ≡ false → TakesUnder G k B x (Refused 7) B x
table_refused G k B x t ss o =
    rw (← o, same_record ss (session_of k % 16)) (refuses k (record { lent = B; limits = G; sessions = ss }) 7 (unfold plan_of in rw t))

-- past the test of the lengths and the session
module _ (B : Buffers) (s : ℕ) where
  pub admitted : 0 ≡ admission (match_of (lengths_in B)) s → Admitted B s
  admitted e =
      let w = admits (lengths_in B) s e in let f = sym (match_is B) ∙ w.0 in
      record { fit = f; lengths = lengths_of B f; low = w.1 }

  -- its refusal is the plan's, where the table fits
  module _ (r : Refusal) (e : refusal_number r ≡ admission (match_of (lengths_in B)) s) (k : Call) (i : s ≡ session_of k) where
    pub plan_refused : (σ : Store) → table_fits k σ.limits ≡ true → σ.lent ≡ B → Refuse (refusal_number r) ≡ plan_of k σ
    unfolding plan_of admission
    plan_refused σ t b =
        test (lengths_fit B)
        (λ f.
        test (ltb s 16) (λ l. absurd (nonzero r (rw (match_is B, f, l) at e)))
        (λ l. let w : refusal_number r ≡ 1 = rw (match_is B, f, l) at e in rw (t, b, f, ← i, l, w)))
        (λ f. let w : refusal_number r ≡ 7 = rw (match_is B, f) at e in rw (t, b, f, w))

    -- and the call is refused by it, with all as it was
    pub refused_under : (G : Limits) → table_fits k G ≡ true → (x : Session) → TakesUnder G k B x (Refused (refusal_number r)) B x
    refused_under G t x ss o =
        rw (← o, same_record ss (session_of k % 16))
        (refuses k (record { lent = B; limits = G; sessions = ss }) (refusal_number r) (plan_refused (record { lent = B; limits = G; sessions = ss }) t refl))

    pub refused : (x : Session) → TakesRecord k B x (Refused (refusal_number r)) B x
    refused x G g = refused_under G (goes_fits k G g) x
