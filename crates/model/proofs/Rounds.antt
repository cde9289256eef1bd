-- Many reads after orders of calls give and leave what they must, by computation over the step definitions.
use mathlib.Core.Path.{◌≡◌, refl}
use mathlib.Core.List.{[], ◌∷◌, map}
use Rattle.records.specs.declared.Call.TheVariants.{Read}
use Rattle.model.specs.Computing.{computing}
use Rattle.model.specs.History.{run}
use Rattle.model.specs.Rounds.{Found, Round, read_from, found_of, stopped_at_claim, rounds}
use Rattle.model.specs.SingleReads.{reads_made}

pub rounds_hold : map {B = Found} found_of rounds ≡ map {B = Found} (λ (r : Round). r.found) rounds
unfolding read_from found_of stopped_at_claim rounds run computing
rounds_hold = refl

-- of the four cells the claimed one is read, and none after it
pub reads_made_lem : reads_made 0 (0 ∷ 1 ∷ 2 ∷ 3 ∷ []) (read_from stopped_at_claim) ≡ Read 0 0 ∷ Read 0 1 ∷ Read 0 2 ∷ []
unfolding read_from stopped_at_claim reads_made run computing
reads_made_lem = refl
