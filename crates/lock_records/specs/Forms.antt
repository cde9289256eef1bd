-- The two forms of the locks side by side: three lists as a run of records, and what a call answers and leaves in either form.
use Rattle.std.specs.Prelude.{ℕ, List, [], ◌∷◌}
use Rattle.records.specs.declared.Lock.{Lock}
use Rattle.records.specs.declared.Sessions.{Sessions}
use Rattle.records.specs.declared.Answer.{Answer}

-- reader sets, claimants and marks as records
abbrev pub zipped : List ℕ → List ℕ → List ℕ → List Lock
zipped [] cs es = []
zipped (r ∷ rs) [] es = []
zipped (r ∷ rs) (c ∷ cs) [] = []
zipped (r ∷ rs) (c ∷ cs) (e ∷ es) = record { readers = r; claimant = c; exclusive = e } ∷ zipped rs cs es

-- a call's outcome with the locks in the form F: its answer, values, locks, logs and records
pub record OutcomeIn (F : Type 0) : Type 0 where
  pub answer : Answer
  pub values : List ℕ
  pub locks : F
  pub logs : List ℕ
  pub sessions : Sessions
