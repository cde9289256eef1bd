-- The reads that are left come to the last answer where the next read gets no value, and otherwise go on behind it.
use Rattle.std.proofs.Common.{sym, ◌∙◌, arith, rules}
use Rattle.cell_reads.proofs.Marks.{below_less}
use Rattle.cell_reads.proofs.Ways.{fits_after, reads_end, reads_stop, reads_go_on}
use Rattle.cell_reads.proofs.read_cells.Goals as goal

pub cells_of-entered-requires : goal.cells_of-entered-requires
cells_of-entered-requires c =
    let f = c.requires.0 in
    (omega (arith, f.count, f.words), below_less _ _ _ _ f.few f.cells)

pub returns-in-Err : goal.returns-in-Err
returns-in-Err c =
    let l = c.loop-i in
    let h = reads_stop l.reads _ _ _ c.loop-i-test.true c.read.new.self _ c.in-Err.ensures.read ∙ sym l.invariant.2 in
    search (rules, h)

pub loop-i-preserved : goal.loop-i-preserved
loop-i-preserved c =
    let l = c.loop-i in
    let i = l.invariant in
    let j = i.0 in
    let b = c.read.new.self in
    let k = c.in-Ok.ensures.kept in
    let e = c.in-Ok.ensures.read in (
      (k.0 ∙ j.0, k.1 ∙ j.1, k.2 ∙ j.2, k.3 ∙ j.3, k.4 ∙ j.4),
      fits_after l.reads _ l.target _ c.loop-i-test.true b k _ e i.1,
      i.2 ∙ reads_go_on l.reads _ l.target _ c.loop-i-test.true b k _ e,
    )

pub returns : goal.returns
returns c =
    let l = c.loop-i in
    let h = reads_end l.reads _ l.target _ (omega (arith, c.loop-i-test.false, l.auto.i-end)) ∙ sym l.invariant.2 in
    search (rules, h)
