-- The cell is below the start, not below the higher so far, or its entry does not publish; it is taken as the lower or as the higher, or is the lower again.
use Rattle.std.proofs.Common.{sym, ◌∙◌}
use Rattle.session_log.proofs.Twos.{two_unpublished, two_before, two_above, two_lower, two_between, two_again}
use Rattle.targets.proofs.lower_two.Goals.{then-cell-from-via-then-cell-from, then-cell-from-via-else-cell-from+then-high-cell, then-cell-from-via-else-cell-from+else-high-cell+then-not-publishes}
use Rattle.targets.proofs.lower_two.Goals as goal

pub returns-then-cell-from : goal.returns-then-cell-from
returns-then-cell-from c =
    λ n w.
    elim c.then-cell-from.branch [
      | then-cell-from-via-then-cell-from b ↦ two_before _ _ _ _ _ _ _ c.cell_at-cell.ensures w b.if-cell-from.true
      | then-cell-from-via-else-cell-from+then-high-cell b ↦ two_above _ _ _ _ _ _ _ c.cell_at-cell.ensures w b.if-high-cell.true
      | then-cell-from-via-else-cell-from+else-high-cell+then-not-publishes b ↦
          two_unpublished _ _ _ _ _ _ _ c.cell_at-cell.ensures w (sym b.publishes.ensures ∙ b.if-not-publishes.true)
    ]

pub returns-then-cell-low : goal.returns-then-cell-low
returns-then-cell-low c =
    λ n w. two_lower _ _ _ _ _ _ _ c.cell_at-cell.ensures w (sym c.publishes.ensures ∙ c.if-not-publishes.false) c.if-cell-from.false c.if-cell-low.true

pub returns-then-low-cell : goal.returns-then-low-cell
returns-then-low-cell c =
    λ n w. two_between _ _ _ _ _ _ _ c.cell_at-cell.ensures w (sym c.publishes.ensures ∙ c.if-not-publishes.false) c.if-low-cell.true c.if-high-cell.false

pub returns : goal.returns
returns c = λ n w. two_again _ _ _ _ _ _ _ c.cell_at-cell.ensures w c.if-cell-low.false c.if-low-cell.false
