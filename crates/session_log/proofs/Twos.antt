-- The lowest two cells of entries judged each by itself, kept over one entry more.
use Prim.Native.Nat.{ℕ, suc, ◌+◌, ◌<◌, ◌≤◌}
use mathlib.Core.Bool.{true, false}
use mathlib.Core.List.{List}
use mathlib.Core.Path.{◌≡◌, ap, ◌∙◌}
use native.Mathlib.Omega.{arith}
use lib.Dec.{ltb}
use borrow.Author.Tests.{ltb-true, ltb-false}
use Rattle.model.specs.Buffers.{cell_at, entry_at, publishes}
use Rattle.model.proofs.Tools.{test}
use Rattle.session_log.specs.Slots.{better, lowest_publishing, LowestTwo}
use Rattle.session_log.proofs.Targets.{LowestPublishing, lowest_publishing_lem, lowest_r, lower_before, lower_above, lower_here, lower_unpublished, publishing_more}

module _ (log : List ℕ) where
  -- ---- a start that is raised up to the lowest cell leaves it the lowest

  lowest_order : {n from next k r s : ℕ} → LowestPublishing log n from k r → LowestPublishing log n next k s → (s < n → from ≤ s) → r ≤ s
  lowest_order {n} {s = s} w v l =
      test (ltb s n)
      (λ t.
      let b = ltb-true s n t in
      let p = v.place b in
      rw p.2 at (w.least p.0 p.1 (rw p.2 (l b)) p.4))
      (λ t. omega (arith, ltb-false s n t, w.most))

  lowest_later : {n from next k r s : ℕ} → LowestPublishing log n from k r → LowestPublishing log n next k s → from ≤ next → next ≤ r → r ≡ s
  lowest_later w v l h =
      omega (arith, lowest_order w v (λ t. omega (arith, (v.place t).3)), lowest_order v w (λ t. h))

  -- ---- one entry more

  module _ (n from i low high c : ℕ) (e : c ≡ cell_at log i) (w : LowestTwo log n from i low high) where
    low_facts : LowestPublishing log n from i low
    low_facts = lowest_r log n i from low w.low_is

    high_facts : LowestPublishing log n (suc low) i high
    high_facts = lowest_r log n i (suc low) high w.high_is

    low_high : low ≤ high
    low_high =
        test (ltb high n) (λ t. omega (arith, (high_facts.place (ltb-true high n t)).3))
        (λ t. omega (arith, ltb-false high n t, low_facts.most))

    lowest_more : (f : ℕ) {r s : ℕ} → r ≡ lowest_publishing log n f i → s ≡ better log f i r → s ≡ lowest_publishing log n f (i + 1)
    lowest_more f h g = g ∙ ap (better log f i) h ∙ publishing_more log n f i

    two_kept : low ≡ better log from i low → high ≡ better log (suc low) i high → LowestTwo log n from (i + 1) low high
    two_kept a b = record { low_is = lowest_more from w.low_is a; high_is = lowest_more (suc low) w.high_is b }

    pub two_unpublished : publishes (entry_at log i) ≡ false → LowestTwo log n from (i + 1) low high
    two_unpublished p = two_kept (lower_unpublished log from i low c e p) (lower_unpublished log (suc low) i high c e p)

    pub two_before : c < from → LowestTwo log n from (i + 1) low high
    two_before h =
        two_kept (lower_before log from i low c e h)
        (test (ltb low c)
        (λ t.
        let u = ltb-true low c t in
        lower_above log (suc low) i high c e
        (test (ltb low n) (λ v. absurd (omega (arith, (low_facts.place (ltb-true low n v)).3))) (λ v. omega (arith, ltb-false low n v, high_facts.most))))
        (λ t. lower_before log (suc low) i high c e (omega (arith, ltb-false low c t))))

    pub two_above : high ≤ c → LowestTwo log n from (i + 1) low high
    two_above h = two_kept (lower_above log from i low c e (omega (arith, low_high))) (lower_above log (suc low) i high c e h)

    pub two_again : low ≤ c → c ≤ low → LowestTwo log n from (i + 1) low high
    two_again a b = two_kept (lower_above log from i low c e a) (lower_before log (suc low) i high c e (omega arith))

    module _ (p : publishes (entry_at log i) ≡ true) where
      pub two_lower : from ≤ c → c < low → LowestTwo log n from (i + 1) c low
      two_lower f h =
          let raised = lowest_later low_facts (lowest_publishing_lem log n (suc c) i) (omega arith) (omega arith) in
          record {
            low_is = lowest_more from w.low_is (lower_here log from i low c e f h p);
            high_is = lowest_more (suc c) raised (lower_before log (suc c) i low c e (omega arith));
          }

      pub two_between : low < c → c < high → LowestTwo log n from (i + 1) low c
      two_between a b = record {
        low_is = lowest_more from w.low_is (lower_above log from i low c e (omega arith));
        high_is = lowest_more (suc low) w.high_is (lower_here log (suc low) i high c e (omega arith) b p);
      }
