-- What set-up leaves but for the sixteen records, and the records by how its tests ended.
use Rattle.std.specs.Prelude.{Result, Ok, Err, replicate}
use Rattle.model.specs.Slices.{Slice}
use Rattle.model.specs.Buffers.{idle}
use Rattle.records.specs.declared.Refusal.{Refusal}
use Rattle.records.specs.declared.Sessions.{Sessions}
use Rattle.records.specs.Records.{answered}
use Rattle.contracts.specs.Lent.{SetsUpBy}

-- the records afterwards: idle, or as they came
abbrev pub records_after : {A : Type 0} → Result A Refusal → Sessions → Sessions
records_after (Ok _) ss = record { records = replicate 16 idle }
records_after (Err _) ss = ss

-- with these records, whichever came, it is set-up by the table
abbrev pub Prepares : {A : Type 0} → Slice → Slice → Slice → Slice → Slice → Slice → Slice → Result A Refusal → Type 0
Prepares caps values classes readers claimants exclusives logs r =
    (ss : Sessions) → SetsUpBy caps values classes readers claimants exclusives logs ss (record { answer = answered r; sessions = records_after r ss })
