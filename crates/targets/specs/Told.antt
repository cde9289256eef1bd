-- What a next advance is told: the entry that it handles, and whether a cell that publishes is left above that entry's.
use Rattle.std.specs.Prelude.{ℕ, List, Option, Some, None}
use Rattle.std.proofs.Math.Option.{none, some}
use Rattle.std.proofs.Math.Option as model
use Rattle.session_log.specs.Slots.{target_slot, is_more}
use Rattle.targets.specs.declared.Next.{Next}

abbrev pub next_of : List ℕ → ℕ → model.Option ℕ → Option Next
next_of log m none = None
next_of log m (some k) = Some (record { slot = k; more = is_more log m (some k) })

-- of the entries that publish, not below a cell
abbrev pub next_in : List ℕ → ℕ → ℕ → Option Next
next_in log m from = next_of log m (target_slot log m from)
