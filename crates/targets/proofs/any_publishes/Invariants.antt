-- The loop keeps that no entry so far publishes and is the first of its cell.
use Rattle.std.proofs.Common.{◌≡◌, ℕ, ◌<◌, false}
use Rattle.session_log.specs.Slots.{first_publishes}
use Rattle.targets.proofs.any_publishes.Given as goal

abbrev pub invariant-loop-i : goal.invariant-loop-i
invariant-loop-i l = (j : ℕ) → j < l.i → first_publishes l.log j l.from ≡ false
