-- A peek's turn: a refusal, or 100, with all as it was.
use mathlib.Core.Path.{◌≡◌, refl}
use mathlib.Core.Option.{Option, none, some}
use mathlib.Core.List.{List}
use Prim.Native.Nat.{ℕ}
use lib.Dec.{ltb, eqb}
use Rattle.model.specs.Buffers.{entry_at, slot_in}
use Rattle.model.specs.Plans.{record_fits, guard, known, peek_slot, peek_plan}
use Rattle.model.specs.Turns.{leaves, turn_of}
use Rattle.records.specs.declared.Session.{Session}
use Rattle.records.specs.declared.Answer.TheVariants.{Done, Refused}
use Rattle.records.specs.declared.Change.TheVariants.{Keep}
use Rattle.records.specs.declared.Plan.{Plan}
use Rattle.records.specs.declared.Plan.TheVariants.{Refuse}
use Rattle.model.proofs.Tools.{split}

module _ (vs log : List ℕ) (x : Session) where
  -- a peek that is no refusal answers 100
  abbrev Shows : Plan → Type 0
  Shows p = ((r : ℕ) → p ≡ Refuse r → ⊥) → leaves Done vs log x Keep ≡ turn_of p vs log x

  turned : (r : ℕ) → Shows (Refuse r)
  turned r h = absurd (h r refl)

  by_slot : (c : ℕ) (o : Option ℕ) → Shows (peek_slot log c o)
  unfolding peek_slot turn_of
  by_slot c none = turned 14
  by_slot c (some k) = split Shows (entry_at log k).dirty (λ d h. refl) (λ d h. refl)

  shows : (n c : ℕ) → Shows (peek_plan n log x c)
  unfolding peek_plan guard known
  shows n c =
      split Shows (record_fits n log x)
      (λ t. split Shows (eqb x.phase 1) (λ u. split Shows (ltb c n) (λ i. by_slot c (slot_in log x.count c)) (λ i. turned 3)) (λ u. turned 2))
      (λ t. turned 9)

  module _ (n c : ℕ) (p : Plan) (e : p ≡ peek_plan n log x c) where
    pub peek_turned : (r : ℕ) → p ≡ Refuse r → leaves (Refused r) vs log x Keep ≡ turn_of (peek_plan n log x c) vs log x
    unfolding turn_of
    peek_turned r h = rw (← e, h)

    pub peek_shown : ((r : ℕ) → p ≡ Refuse r → ⊥) → leaves Done vs log x Keep ≡ turn_of (peek_plan n log x c) vs log x
    peek_shown h = shows n c (rw e at h)
