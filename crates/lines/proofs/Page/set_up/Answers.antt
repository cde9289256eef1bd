-- The word, then the number.
use Rattle.std.proofs.Common.{arith}
use Rattle.replay_text.specs.Lines.{set_up_line}
use Rattle.replay_text.proofs.Decimals.{length-word}
use Rattle.lines.proofs.Puts.{ends_at, left, then}
use Rattle.lines.proofs.Page.set_up.Goals as goal

pub word-requires : goal.word-requires
word-requires c = left _ _ _ c.text.ensures.text _ (omega (arith, length-word 2 c.from.result 10 (omega arith)))

pub returns-clause-text : goal.returns-clause-text
unfolding set_up_line
returns-clause-text c =
    let a = c.text.ensures.text in
    let e = c.word.ensures.text in
    rw (← c.from.ensures) (then _ _ _ _ a e, omega (arith, ends_at _ _ _ a, ends_at _ _ _ e, length-word 2 c.from.result 10 (omega arith)))
