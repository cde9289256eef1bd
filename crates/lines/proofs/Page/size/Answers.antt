-- The text as it is.
use Rattle.std.proofs.Common.{arith}
use Rattle.replay_text.specs.Lines.{size_line}
use Rattle.lines.proofs.Puts.{ends_at}
use Rattle.lines.proofs.Page.size.Goals as goal

pub returns-clause-text : goal.returns-clause-text
unfolding size_line
returns-clause-text c = let text = c.text.ensures.text in (text, omega (arith, ends_at _ _ _ text))
