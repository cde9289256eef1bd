-- What the claim on ends (specs/Ending.antt) excludes, by computation: a committed transaction that ends with 6, and one that ends with 105 and is not committed.
use Prim.Native.Nat.{ℕ}
use mathlib.Core.Path.{refl}
use mathlib.Core.Bool.{true, false}
use mathlib.Core.List.{List, [], ◌∷◌}
use Rattle.records.specs.declared.Answer.TheVariants.{Done, Value, Sealed, Moved, Committed, Refused}
use Rattle.records.specs.declared.Call.TheVariants.{Begin, Seal, Advance, Hold}
use Rattle.model.specs.Computing.{counting}
use Rattle.model.specs.History.{event, with_found, name}
use Rattle.model.proofs.Tools.{clash}
use Rattle.model_claims.specs.Ending.{EachEnds}

abbrev first : List ℕ
first = 3 ∷ 5 ∷ []

pub committed_rolled_back : EachEnds first
    (event (Advance 0) (Refused 6) ∷ event (Advance 0) Moved ∷ event (Seal 0) Sealed ∷ with_found 3 (event (Hold 0 0) (Value 3)) ∷ event (Begin 0) Done ∷ []) → ⊥
unfolding counting
committed_rolled_back e = clash true refl (e.1 (name 1 0) (refl, refl))

pub uncommitted_105 : EachEnds first (event (Advance 0) Committed ∷ event (Begin 0) Done ∷ []) → ⊥
unfolding counting
uncommitted_105 e = clash false (e.1 (name 1 0) (refl, refl)) refl
