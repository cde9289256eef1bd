-- The ordinal and the number, and after 101 and 104 the value.
use Rattle.std.proofs.Common.{arith, ◌∙◌, ap}
use Rattle.lines.specs.Output.{put}
use Rattle.replay_text.proofs.Answers.{plain_line, value_line, wait_line}
use Rattle.replay_text.proofs.Decimals.{length-pair}
use Rattle.lines.proofs.Puts.{ends_at}
use Rattle.lines.proofs.Page.answer.Goals as goal

pub pair-requires : goal.pair-requires
pair-requires c = omega (arith, length-pair 4 2 c.args.ordinal c.from-n.result 10 (omega arith) (omega arith))

pub returns-in-Value-clause-text : goal.returns-in-Value-clause-text
returns-in-Value-clause-text c = let e = c.told.ensures.text in (e.0 ∙ ap (put _ _) (value_line _ _ _ _ (c.from-n.ensures ∙ c.number.ensures) c.in-Value.is), e.1)

pub returns-in-Waiting-clause-text : goal.returns-in-Waiting-clause-text
returns-in-Waiting-clause-text c =
    let e = c.told-in-Waiting.ensures.text in (e.0 ∙ ap (put _ _) (wait_line _ _ _ _ (c.from-n.ensures ∙ c.number.ensures) c.in-Waiting.is), e.1)

pub returns-in_default : goal.returns-in_default
returns-in_default c =
    let e = c.pair.ensures.text in
    let long = length-pair 4 2 c.args.ordinal c.from-n.result 10 (omega arith) (omega arith) in
    record {
      same = c.pair.ensures.same;
      text = (e ∙ ap (put _ _) (plain_line _ _ _ (c.from-n.ensures ∙ c.number.ensures) c.in_default.not-Value c.in_default.not-Waiting), omega (arith, ends_at _ _ _ e, long));
    }
