-- The loop keeps that the cells read and those of the items from the place on are all the leading cells.
use Rattle.std.proofs.Common.{length, ◌-◌, ◌≡◌, ◌≤◌}
use Rattle.items.proofs.Scanning.{Leads}
use Rattle.items.proofs.read_cells.Given as goal

abbrev pub invariant-loop-cell : goal.invariant-loop-cell
invariant-loop-cell l =
    (l.count ≤ 1024) × (l.place ≤ length l.input) × (length l.values ≡ length l.initial.values) × (length l.classes ≡ length l.initial.classes) × Leads l.input l.values l.classes l.count l.place

abbrev pub decreases-loop-cell : goal.decreases-loop-cell
decreases-loop-cell l = length l.input - l.place
