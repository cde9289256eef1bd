-- The ordinal and the number, and the value after them.
use Rattle.std.proofs.Common.{arith, ◌∙◌, ap, append_assoc}
use Rattle.replay_text.specs.Lines.{word, space}
use Rattle.lines.specs.Output.{put}
use Rattle.replay_text.proofs.Decimals.{length-word, length-pair}
use Rattle.lines.proofs.Puts.{ends_at, left, then}
use Rattle.lines.proofs.Page.told.Goals as goal

pub pair-requires : goal.pair-requires
pair-requires c = omega (arith, length-pair 4 2 c.args.ordinal c.args.number 32 (omega arith) (omega arith))

pub word-requires : goal.word-requires
word-requires c =
    let a = c.args in
    left _ _ _ c.pair.ensures.text _ (omega (arith, length-pair 4 2 a.ordinal a.number 32 (omega arith) (omega arith), length-word 9 a.value 10 (omega arith)))

pub returns-clause-text : goal.returns-clause-text
returns-clause-text c =
    let a = c.args in
    let p = c.pair.ensures.text in
    let e = c.word.ensures.text in (
      then _ _ _ _ p e ∙ ap (put _ _) (append_assoc (word a.ordinal space) _ _),
      omega (arith, ends_at _ _ _ p, ends_at _ _ _ e, length-pair 4 2 a.ordinal a.number 32 (omega arith) (omega arith), length-word 9 a.value 10 (omega arith)),
    )
