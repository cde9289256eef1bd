-- The word `field`, the place and the number.
use Rattle.std.proofs.Common.{arith}
use Rattle.replay_text.specs.Lines.{field_line}
use Rattle.replay_text.proofs.Decimals.{length-pair}
use Rattle.lines.proofs.Puts.{ends_at, left, then}
use Rattle.lines.proofs.Page.field.Goals as goal

pub pair-requires : goal.pair-requires
pair-requires c = left _ _ _ c.text.ensures.text _ (omega (arith, length-pair 4 2 c.args.place c.from.result 10 (omega arith) (omega arith)))

pub returns-clause-text : goal.returns-clause-text
unfolding field_line
returns-clause-text c =
    let a = c.text.ensures.text in
    let e = c.pair.ensures.text in
    rw (← c.from.ensures) (then _ _ _ _ a e, omega (arith, ends_at _ _ _ a, ends_at _ _ _ e, length-pair 4 2 c.args.place c.from.result 10 (omega arith) (omega arith)))
