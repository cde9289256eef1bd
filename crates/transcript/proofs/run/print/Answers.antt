-- Too long an input, too many cells, or the cells and what follows.
use Rattle.std.proofs.Common.{◌∙◌, ap, arith}
use Rattle.lines.specs.Output.{put}
use Rattle.replay_text.proofs.Inputs.{size_text, too_many_text, leading_text}
use Rattle.transcript.proofs.run.print.Goals as goal

pub returns-then-input-gt65536-clause-text : goal.returns-then-input-gt65536-clause-text
returns-then-input-gt65536-clause-text c =
    let line = c.size.ensures.text in
    (line.0 ∙ ap (put _ _) (size_text _ c.if-input-gt65536.true), omega arith)

pub returns-in_default-clause-text : goal.returns-in_default-clause-text
returns-in_default-clause-text c =
    let line = rw c.number.ensures at c.set_up.ensures.text in
    (line.0 ∙ ap (put _ _) (too_many_text _ c.if-input-gt65536.false c.in_default.ensures), omega arith)

pub returns-clause-text : goal.returns-clause-text
returns-clause-text c =
    let run = c.run_cells.ensures.text in
    (run.0 ∙ ap (put _ _) (leading_text _ _ _ _ _ c.if-input-gt65536.false c.in-Some.ensures), run.1)
