-- Set-up by the answer of its tests: refused with all as it was, or fresh.
use mathlib.Core.Path.{◌≡◌, refl, sym, ◌∙◌}
use mathlib.Core.Bool.{true, ◌&&◌}
use mathlib.Core.List.{List}
use Prim.Native.Nat.{ℕ}
use native.Mathlib.Omega.{arith}
use borrow.Author.Tests.{ne_eqb}
use lib.ListN.{length, replicate}
use Rattle.model.specs.Buffers.{Store, size, has_caps, lengths_match, lengths_fit, fresh, idle}
use Rattle.model.specs.Step.{outcome, set_up_refusal, set_up_answer, set_up, set_up_effect}
use Rattle.records.specs.declared.Refusal.{Refusal}
use Rattle.records.specs.declared.Sessions.{Sessions}
use Rattle.records.specs.declared.Answer.TheVariants.{Done, Refused}
use Rattle.records.specs.Records.{refusal_number}
use Rattle.records.proofs.Refusals.{nonzero}
use Rattle.model.proofs.Tools.{test, both_r}
use Rattle.refusals.proofs.Admission.{lengths_of, lengths_in}
use Rattle.loads.specs.Loads.{set_up_tests}

module _ (σ : Store) where
  -- the tests on the lengths alone are the model's
  pub tests_are : set_up_tests σ.limits.caps (lengths_in σ.lent) σ.lent.values σ.lent.classes ≡ set_up_refusal σ.limits σ.lent
  unfolding set_up_tests set_up_refusal lengths_match lengths_fit size
  tests_are = refl

  pub set_refused : (r : Refusal) → refusal_number r ≡ set_up_tests σ.limits.caps (lengths_in σ.lent) σ.lent.values σ.lent.classes
      → outcome (Refused (refusal_number r)) σ ≡ set_up_effect σ
  unfolding set_up_effect set_up_answer set_up
  set_refused r e = let h = e ∙ tests_are in rw (sym h, ne_eqb (refusal_number r) 0 (nonzero r))

  module _ (h : 0 ≡ set_up_tests σ.limits.caps (lengths_in σ.lent) σ.lent.values σ.lent.classes) where
    -- past the tests the lengths fit
    pub fit : lengths_fit σ.lent ≡ true
    unfolding set_up_refusal
    fit =
        test (has_caps σ.limits.caps && lengths_fit σ.lent) (both_r (has_caps σ.limits.caps) (lengths_fit σ.lent))
        (λ f. absurd (let w : 0 ≡ 7 = rw (f) at (h ∙ tests_are) in omega arith))

    pub set_done : (R C E W : List ℕ) (ss : Sessions)
        → R ≡ replicate (length σ.lent.locks.readers) 0
        → C ≡ replicate (length σ.lent.locks.claimants) 16
        → E ≡ replicate (length σ.lent.locks.exclusives) 0
        → W ≡ replicate (length σ.lent.logs) 0
        → ss ≡ record { records = replicate 16 idle }
        → outcome Done
        (record {
          lent = record { values = σ.lent.values; classes = σ.lent.classes; locks = record { readers = R; claimants = C; exclusives = E }; logs = W };
          limits = σ.limits;
          sessions = ss;
        })
        ≡ set_up_effect σ
    unfolding set_up_effect set_up_answer set_up fresh size
    set_done R C E W ss r c x w s =
        let l = lengths_of σ.lent fit in
        rw (sym (h ∙ tests_are), r, c, x, w, s, l.readers, l.claimants, l.exclusives, l.logs)
