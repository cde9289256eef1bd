-- The lowest two cells by one pass; each is the target from its start where its first entry publishes.
use Rattle.std.proofs.Common.{sym, ◌∙◌, arith}
use Rattle.session_log.proofs.Targets.{slot_some}
use Rattle.targets.proofs.Told.{two_none, two_last, two_more}
use Rattle.targets.proofs.next_two.Goals as goal

pub returns-then-n-low : goal.returns-then-n-low
returns-then-n-low c = two_none _ _ _ _ _ _ c.lowest_two-low.ensures c.requires.2 c.if-n-low.true

pub publishes-requires : goal.publishes-requires
publishes-requires c = omega (arith, (slot_some _ _ _ (sym c.in-Some.ensures)).0)

pub returns-then-n-high : goal.returns-then-n-high
returns-then-n-high c =
    two_last _ _ _ _ _ _ c.lowest_two-low.ensures c.if-n-low.false c.in-Some.ensures (sym c.publishes.ensures ∙ c.if-publishes.true) c.requires.2 c.if-n-high.true

pub publishes-requires-2 : goal.publishes-requires-2
publishes-requires-2 c = omega (arith, (slot_some _ _ _ (sym c.in-Some-find.ensures)).0)

pub returns : goal.returns
returns c =
    two_more _ _ _ _ _ _ c.lowest_two-low.ensures c.if-n-low.false c.in-Some.ensures (sym c.publishes.ensures ∙ c.if-publishes.true)
    c.if-n-high.false c.in-Some-find.ensures (sym c.publishes-2.ensures ∙ c.if-publishes-2.true)
