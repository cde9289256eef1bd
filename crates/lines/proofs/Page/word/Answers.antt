-- The digits, then one byte.
use Rattle.std.proofs.Common.{arith, [], ◌∷◌, length-append}
use Rattle.replay_text.specs.Decimal.{decimal}
use Rattle.replay_text.specs.Lines.{word}
use Rattle.lines.proofs.Puts.{left, then}
use Rattle.lines.proofs.Page.word.Goals as goal

pub number-requires : goal.number-requires
unfolding word
number-requires c = omega (arith, length-append (decimal c.args.n) (c.args.end ∷ []))

pub byte-requires : goal.byte-requires
unfolding word
byte-requires c = omega (arith, left _ _ _ c.number.ensures.text 1 (omega (arith, length-append (decimal c.args.n) (c.args.end ∷ []))))

pub returns-clause-text : goal.returns-clause-text
unfolding word
returns-clause-text c = then _ _ _ _ c.number.ensures.text c.byte.ensures.text
