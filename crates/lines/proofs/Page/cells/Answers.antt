-- The line of one cell is at most 18 bytes, and what is put after what was written is one text with it.
use Rattle.std.proofs.Common.{arith, sym, ◌∙◌, ap, get_or}
use Rattle.lines.specs.Output.{put}
use Rattle.replay_text.proofs.Decimals.{length-cell}
use Rattle.replay_text.proofs.CellLines.{cells_more, cells_none}
use Rattle.lines.proofs.Puts.{ends_at, kept, after, put_nothing}
use Rattle.lines.proofs.Page.cells.Goals as goal

pub loop-i-preserved : goal.loop-i-preserved
loop-i-preserved c =
    let i = c.loop-i.i in
    let values = c.args.values.now in
    let inv = c.loop-i.invariant in
    let line = c.cell.ensures.text in
    record {
      same = c.cell.ensures.same ∙ inv.same;
      room = kept _ _ _ line ∙ inv.room;
      bound = omega (arith, inv.bound, ends_at _ _ _ line, length-cell i (get_or values i 0) (omega arith) (omega (arith, c.type_inv.values i)));
      text = after _ _ _ _ line ∙ ap (put _ _) (sym (cells_more i values c.loop-i-test.true)) ∙ inv.text;
    }

pub returns-clause-text : goal.returns-clause-text
returns-clause-text c =
    let inv = c.loop-i.invariant in
    (sym (put_nothing _ _) ∙ ap (put _ _) (sym (cells_none _ _ c.loop-i-test.false)) ∙ inv.text, omega (arith, inv.bound, c.loop-i.auto.i-end))
