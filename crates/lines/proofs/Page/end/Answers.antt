-- The line of what ends the calls, and the cells after it.
use Rattle.std.proofs.Common.{arith}
use Rattle.lines.proofs.Puts.{kept, then}
use Rattle.lines.proofs.Page.end.Goals as goal

pub cells-requires : goal.cells-requires
cells-requires c = let stop = c.stop.ensures.text in (omega arith, omega (arith, stop.1, kept _ _ _ stop.0))

pub returns-clause-text : goal.returns-clause-text
returns-clause-text c =
    let stop = c.stop.ensures.text in
    let cells = c.cells.ensures.text in
    (then _ _ _ _ stop.0 cells.0, omega (arith, stop.1, cells.1))
