-- A long enough output is the page's, so the text stands at its front.
use Rattle.std.proofs.Common.{rules}
use Rattle.transcript.proofs.Starting.{printed_text, text_bound}
use Rattle.transcript.proofs.replay.Goals as goal

pub returns-clause-text : goal.returns-clause-text
returns-clause-text c =
    let text = c.print.ensures.text in
    printed_text _ _ c.new-page.result c.print.new.page c.new-page.ensures.empty text.0 text.1 c.if-output-lt409600.false (search rules)

pub returns-clause-bound : goal.returns-clause-bound
returns-clause-bound c =
    let text = c.print.ensures.text in
    λ h. text_bound _ _ c.new-page.result c.print.new.page c.new-page.ensures.empty text.0 text.1
