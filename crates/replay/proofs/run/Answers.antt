-- The output is long enough, so the text stands at its front.
use Rattle.std.proofs.Common.{rules, arith, subst, sym}
use Rattle.std.proofs.Math.Seq.{length-take-le}
use Rattle.std.proofs.lemmas.Result.{on_ok_weaker}
use Rattle.std.specs.Io.KnownBytes.{Appends}
use Rattle.replay.proofs.Printing.{answered, front, told}
use Rattle.replay.proofs.run.Goals as goal

pub returns-in_default : goal.returns-in_default
returns-in_default g c = absurd (c.in_default.not-Some _ (answered _ _ _ _ (search rules) c.replay.ensures.text))

pub slice_bounds-output-end : goal.slice_bounds-output-end
slice_bounds-output-end g c = (front _ _ _ _ (search rules) c.replay.ensures.text _ c.in-Some.is).0

pub slice_bounds-write_all-end : goal.slice_bounds-write_all-end
slice_bounds-write_all-end g c = sym (length-take-le _ _ (front _ _ _ _ (search rules) c.replay.ensures.text _ c.in-Some.is).0)

pub returns : goal.returns
returns g c =
    on_ok_weaker c.write_all.result (λ a.
    told _ _ _ _ _ c.in_ok-n.ensures.taken (λ h. c.in_ok-n.ensures.ended (omega (arith, h, c.in_ok-n.ensures.inside.0, c.in_ok-n.ensures.inside.1, c.read_full.auto.bytes)))
    (subst (Appends _ _) (front _ _ _ _ (search rules) c.replay.ensures.text _ c.in-Some.is).1 a)) c.write_all.ensures.bytes
