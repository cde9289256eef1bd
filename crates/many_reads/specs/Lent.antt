-- What the call on number slices is given and leaves, as the model's store: `contracts/specs/Lent.antt` has the other calls.
use Rattle.std.specs.Prelude.{ℕ}
use Rattle.model.specs.ManyReads.{TakesReads}
use Rattle.model.specs.Slices.{Slice}
use Rattle.records.specs.declared.ReadManyReply.{ReadManyReply}
use Rattle.records.specs.declared.Session.{Session}
use Rattle.contracts.specs.Lent.{lent_before, lent_after}

-- many reads by session s, handed its record x, reply and leave what the model says, the target too
abbrev pub ReadsMany : ℕ → Slice → Slice → Slice → Slice → Slice → Slice → Slice → Slice → Session → ReadManyReply → Type 0
ReadsMany s cells values classes readers claimants exclusives logs target x r =
    TakesReads s cells.entry.now (lent_before values classes readers claimants exclusives logs) x target.entry.now r
    (lent_after values classes readers claimants exclusives logs) target.exit.now
