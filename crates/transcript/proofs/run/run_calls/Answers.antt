-- What ends the calls is put with the cells; a call's line is put, and the items behind the call are what is left of the text.
use Rattle.std.proofs.Common.{sym, ◌∙◌, ap, subst, arith}
use Rattle.model.specs.Buffers.{ours}
use Rattle.items.specs.Items.{following}
use Rattle.items.proofs.Scanning.{Advances, advances, items_by}
use Rattle.lines.specs.Output.{put}
use Rattle.lines.proofs.Puts.{kept}
use Rattle.replay_text.specs.Transcript.{calls_text}
use Rattle.transcript.proofs.Turns.{turned_text, stops, standing}
use Rattle.transcript.proofs.run.run_calls.Goals as goal

pub returns-in_default : goal.returns-in_default
returns-in_default c =
    let v = c.loop-call.invariant in
    let here = items_by _ _ _ c.next_at-next.ensures in
    let left = ap (calls_text _ _) here ∙ stops _ _ _ _ _ c.in_default.ensures in
    let end = c.end.ensures.text in
    record { same = c.end.ensures.same ∙ v.same; text = (end.0 ∙ ap (put _ _) (sym left) ∙ v.text, omega arith) }

pub overflow_add-place : goal.overflow_add-place
overflow_add-place c =
    let seen = standing _ _ _ c.in-Some.ensures ∙ c.next_at-next.ensures in
    let step = subst (Advances _ _) (sym seen) (advances _ _) in
    omega arith

pub loop-call-smaller : goal.loop-call-smaller
loop-call-smaller c =
    let seen = standing _ _ _ c.in-Some.ensures ∙ c.next_at-next.ensures in
    let step = subst (Advances _ _) (sym seen) (advances _ _) in
    omega arith

pub loop-call-preserved : goal.loop-call-preserved
unfolding following
loop-call-preserved c =
    let v = c.loop-call.invariant in
    let seen = standing _ _ _ c.in-Some.ensures ∙ c.next_at-next.ensures in
    let step = subst (Advances _ _) (sym seen) (advances _ _) in
    let here = items_by _ _ _ seen in
    let line = c.answer.ensures.text in
    record {
      inside = omega arith;
      read = omega arith;
      same = c.answer.ensures.same ∙ v.same;
      written = omega arith;
      room = kept _ _ _ line.0 ∙ v.room;
      cells = omega arith;
      text = turned_text _ _ _ _ _ _ (c.step-reply.ensures ours) line.0 ∙ ap (put _ _) (ap (calls_text _ _) (sym here)) ∙ v.text;
    }
