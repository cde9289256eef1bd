-- One word after the other.
use Rattle.std.proofs.Common.{arith, length-append}
use Rattle.replay_text.specs.Lines.{word, space}
use Rattle.lines.proofs.Puts.{left, then}
use Rattle.lines.proofs.Page.pair.Goals as goal

pub word-requires : goal.word-requires
word-requires c = omega (arith, length-append (word c.args.n space) (word c.args.m c.args.end))

pub word-requires-2 : goal.word-requires-2
word-requires-2 c = left _ _ _ c.word.ensures.text _ (omega (arith, length-append (word c.args.n space) (word c.args.m c.args.end)))

pub returns-clause-text : goal.returns-clause-text
returns-clause-text c = then _ _ _ _ c.word.ensures.text c.word-2.ensures.text
