-- One way through for each return: the entry publishes, its cell is marked, or is left.
use Rattle.std.proofs.Common.{sym, ◌∙◌}
use Rattle.sweeps.proofs.Sweeps.{drop_written, drop_marked, drop_left}
use Rattle.sweeps.proofs.drop_at.Goals as goal

pub returns-then-stays : goal.returns-then-stays
returns-then-stays c =
    drop_written _ _ _ _ _ _ c.cell_at-cell.ensures (sym c.publishes-stays.ensures ∙ c.if-stays.true) _ c.insert.ensures

pub returns-then-contains : goal.returns-then-contains
returns-then-contains c =
    drop_marked _ _ _ _ _ _ c.cell_at-cell.ensures (sym c.publishes-stays.ensures ∙ c.if-stays.false)
    (sym c.contains.ensures ∙ c.if-contains.true)

pub returns : goal.returns
returns c =
    drop_left _ _ _ _ _ _ c.cell_at-cell.ensures (sym c.publishes-stays.ensures ∙ c.if-stays.false)
    (sym c.contains.ensures ∙ c.if-contains.false) _ c.leave_at.ensures
