-- Set-up's answer decides what is printed.
use Rattle.std.proofs.Common.{refl, ◌∙◌, ap, sym, arith}
use Rattle.lines.specs.Output.{put}
use Rattle.transcript.proofs.Starting.{refused_text, accepted_text, other, is_100}
use Rattle.transcript.proofs.run.set_up_and_run.Goals as goal

pub returns-then-ne-clause-text : goal.returns-then-ne-clause-text
returns-then-ne-clause-text c =
    let line = c.set_up.ensures.text in let reply = c.set_up-reply.ensures in let n = c.number.ensures in
    let k = other _ _ _ _ _ _ _ c.requires.fitted reply c.if-ne.true (λ e. rw e at c.ne.ensures) in
    (line.0 ∙ ap (put _ _) (refused_text _ _ _ _ _ _ _ c.requires.fitted reply _ _ n (λ h. k (sym n ∙ h))), omega arith)

pub returns-clause-text : goal.returns-clause-text
returns-clause-text c =
    let run = c.run_calls.ensures.text in let reply = c.set_up-reply.ensures in
    let k = is_100 _ _ _ _ _ _ _ c.requires.fitted reply c.if-ne.false (λ r e. rw e at c.ne.ensures) in
    (run.0 ∙ ap (put _ _) (accepted_text _ _ _ _ _ _ _ c.requires.fitted reply _ _ refl k), run.1)
