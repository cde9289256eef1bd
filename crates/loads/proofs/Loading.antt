-- The ways through a load of the table T: each refusal, past the tests before it, and 100.
use Prim.Native.Nat.{ℕ}
use mathlib.Core.Path.{◌≡◌, sym, ◌∙◌}
use mathlib.Core.Bool.{Bool, true, false, ◌&&◌}
use mathlib.Core.List.{List}
use lib.ListN.{length}
use lib.Dec.{eqb}
use borrow.Author.Tests.{eq-eqb, ne_eqb, eqb-true}
use Rattle.model.specs.Buffers.{Buffers, Store, has_caps, lengths_match, lengths_fit}
use Rattle.model.specs.Load.{load_refusal, with_caps, load_answer, load, load_effect}
use Rattle.model.specs.Step.{outcome}
use Rattle.records.specs.declared.Sessions.{Sessions}
use Rattle.records.specs.declared.Answer.TheVariants.{Done, Refused}
use Rattle.model.proofs.Tables.{has_caps_lem, has_not}
use Rattle.model.proofs.Tools.{test, clash, and-false}
use Rattle.loads.specs.Loads.{table_refusal, Lends}
use Rattle.refusals.specs.declared.Lengths.{Lengths}
use Rattle.refusals.specs.Pieces.{match_of}
use Rattle.refusals.proofs.Admission.{match_is}

-- ---- on a store

module _ (T : List ℕ) (σ : Store) where
  abbrev fit : Bool
  fit = has_caps σ.limits.caps && has_caps T && lengths_fit σ.lent

  pub load_7 : fit ≡ false → outcome (Refused 7) σ ≡ load_effect T σ
  unfolding load_effect load_answer load load_refusal
  load_7 a = rw a

  -- past 7, r is what the code's tests answered
  module _ (a : fit ≡ true) (r : ℕ) (e : r ≡ table_refusal T σ.sessions σ.lent.values σ.lent.classes) where
    number_is : load_refusal T σ ≡ r
    unfolding load_refusal table_refusal
    number_is = rw a (sym e)

    pub load_refused : (r ≡ 0 → ⊥) → outcome (Refused r) σ ≡ load_effect T σ
    unfolding load_effect load_answer load
    load_refused n = rw (number_is, ne_eqb r 0 n)

    pub load_done : r ≡ 0 → outcome Done (with_caps T σ) ≡ load_effect T σ
    unfolding load_effect load_answer load
    load_done n = rw (number_is, eq-eqb r 0 n)

-- where the lengths fit the classes are as many as the values
pub even : (l : Lengths) (n k : ℕ) → (l.values ≡ n) × (l.classes ≡ k) → (f : Bool) → f ≡ match_of l → f ≡ true → k ≡ n
unfolding lengths_match
even l n k s f q g =
    sym s.1 ∙ eqb-true l.classes l.values (test (eqb l.classes l.values) (λ p. p) (λ p. absurd (clash f g (q ∙ rw (p, and-false))))) ∙ s.0

-- the lengths that a load is told
abbrev pub told : List ℕ → List ℕ → ℕ → ℕ → ℕ → ℕ → Lengths
told vs ks r c e w = record { values = length vs; classes = length ks; readers = r; claimants = c; exclusives = e; logs = w }

-- ---- as the code has it: the table C in force, the values vs, the classes ks, and the lengths of the rest

module _ (vs ks : List ℕ) (l : Lengths) (C T : List ℕ) (ss : Sessions) where
  abbrev given : Buffers → Store
  given B = record { lent = B; limits = record { caps = C }; sessions = ss }

  abbrev Refuses : ℕ → Type 0
  Refuses n = (B : Buffers) → Lends vs ks l.readers l.claimants l.exclusives l.logs B → outcome (Refused n) (given B) ≡ load_effect T (given B)

  pub caps_7 : (length C ≡ 16 → ⊥) → Refuses 7
  caps_7 n B h = load_7 T (given B) (rw (has_not C n))

  pub table_7 : (length T ≡ 16 → ⊥) → Refuses 7
  table_7 n B h = load_7 T (given B) (rw (has_not T n, and-false))

  module _ (s : (l.values ≡ length vs) × (l.classes ≡ length ks)) (f : Bool) (q : f ≡ match_of l) where
    is_fit : (B : Buffers) → Lends vs ks l.readers l.claimants l.exclusives l.logs B → f ≡ lengths_fit B
    is_fit B h = (rw (s.0, s.1, h.values, h.classes, h.readers, h.claimants, h.exclusives, h.logs) at q) ∙ match_is B

    pub lengths_7 : f ≡ false → Refuses 7
    lengths_7 g B h = load_7 T (given B) (rw (sym (is_fit B h) ∙ g, and-false))

    module _ (a : length C ≡ 16) (b : length T ≡ 16) (g : f ≡ true) (n : ℕ) (o : n ≡ table_refusal T ss vs ks) where
      fitting : (B : Buffers) → Lends vs ks l.readers l.claimants l.exclusives l.logs B → fit T (given B) ≡ true
      fitting B h = rw (has_caps_lem C a, has_caps_lem T b, sym (is_fit B h) ∙ g)

      said : (B : Buffers) → Lends vs ks l.readers l.claimants l.exclusives l.logs B → n ≡ table_refusal T ss B.values B.classes
      said B h = rw (h.values, h.classes) at o

      pub refuses : (n ≡ 0 → ⊥) → Refuses n
      refuses z B h = load_refused T (given B) (fitting B h) n (said B h) z

      pub loads : n ≡ 0 → (D : List ℕ) → D ≡ T → (B : Buffers) → Lends vs ks l.readers l.claimants l.exclusives l.logs B
          → outcome Done (record { lent = B; limits = record { caps = D }; sessions = ss }) ≡ load_effect T (given B)
      loads z D d B h = rw d (load_done T (given B) (fitting B h) n (said B h) z)
