-- Each return is the turn of a way through `advance_on`, by the phase. What is due says that the entry is there, and whether a written cell is left.
use Rattle.std.proofs.Common.{refl, sym, ◌∙◌, arith}
use Rattle.advance.proofs.Ways.{advance_promotes, advance_publishes, advance_releases}
use Rattle.advance.proofs.Agree.{known, left_at}
use Rattle.advance.proofs.Turning.{turn_published, turn_released, turn_at}
use Rattle.advance.proofs.take_entry.Goals as goal

pub cell_at-cell-requires : goal.cell_at-cell-requires
cell_at-cell-requires c = let a = known _ _ _ _ c.requires.3 in omega (arith, a.slot, a.entries.count, c.requires.0)

pub promote-requires : goal.promote-requires
promote-requires c =
    let a = known _ _ _ _ c.requires.3 in (a.upto, omega (arith, a.cell, c.requires.1, c.cell_at-cell.ensures), c.requires.2)

pub returns-then-x-eq2 : goal.returns-then-x-eq2
returns-then-x-eq2 c =
    c.promote.ensures.0 _ _ (left_at _ _ _ _ c.requires.3 _ c.cell_at-cell.ensures)
    ∙ turn_at _ _ _ _ _ (advance_promotes _ _ _ _ _ _ c.cell_at-cell.ensures c.if-x-eq2.true _ refl)

pub handle-handled-requires : goal.handle-handled-requires
handle-handled-requires c =
    let a = known _ _ _ _ c.requires.3 in (a.upto, omega (arith, a.cell, c.requires.1, c.cell_at-cell.ensures))

pub current-requires : goal.current-requires
current-requires c = let a = known _ _ _ _ c.requires.3 in omega (arith, a.slot, a.entries.count, c.requires.0)

pub bounds-values-cell : goal.bounds-values-cell
bounds-values-cell c = let a = known _ _ _ _ c.requires.3 in omega (arith, a.cell, c.cell_at-cell.ensures)

pub returns-then-publishing : goal.returns-then-publishing
returns-then-publishing c =
    turn_published _ _ _ _ _ _ _ _ _
    (sym (advance_publishes _ _ _ _ _ _ c.cell_at-cell.ensures c.if-x-eq2.false c.if-publishing.true _ c.current.ensures))
    (left_at _ _ _ _ c.requires.3 _ c.cell_at-cell.ensures)
    c.handle-handled.ensures
    c.keeps.ensures

pub returns : goal.returns
returns c =
    let a = known _ _ _ _ c.requires.3 in
    turn_released _ _ _ _ _ _
    (left_at _ _ _ _ c.requires.3 _ c.cell_at-cell.ensures)
    _
    c.handle-handled.ensures
    (sym (advance_releases _ _ _ _ _ _ c.cell_at-cell.ensures c.if-x-eq2.false c.if-publishing.false))
    (omega (arith, a.from, a.upto, c.if-x-eq2.false, c.if-publishing.false))
