-- It goes as `decimal` does.
use Rattle.std.proofs.Common.{arith, sym, ◌∙◌, ap}
use Rattle.lines.specs.Output.{put}
use Rattle.replay_text.proofs.Decimals.{decimal_digit, decimal_more, length-digit, length_more}
use Rattle.lines.proofs.Puts.{left, then}
use Rattle.lines.proofs.Page.+number.Goals as goal

pub byte-requires : goal.byte-requires
byte-requires t c = omega (arith, length-digit _ c.if-n-lt10.true)

pub returns-then-n-lt10-clause-text : goal.returns-then-n-lt10-clause-text
returns-then-n-lt10-clause-text t c = c.byte.ensures.text ∙ ap (put _ _) (sym (decimal_digit _ c.if-n-lt10.true))

pub number-requires : goal.number-requires
number-requires t c = (omega arith, omega (arith, length_more _ c.if-n-lt10.false))

pub byte-requires-2 : goal.byte-requires-2
byte-requires-2 t c = omega (arith, left _ _ _ c.number.ensures.text 1 (omega (arith, length_more _ c.if-n-lt10.false)))

pub returns-clause-text : goal.returns-clause-text
returns-clause-text t c = then _ _ _ _ c.number.ensures.text c.byte-2.ensures.text ∙ ap (put _ _) (sym (decimal_more _ c.if-n-lt10.false))
