-- Each return is a way through `handled_by`.
use Rattle.advance.proofs.Ways.{handle_next, handle_rests, handle_raises}
use Rattle.advance.proofs.handle.Goals as goal

pub returns-then-more : goal.returns-then-more
returns-then-more c = handle_next _ _ _ _ c.if-more.true c.moved.ensures

pub returns-then-x-eq4 : goal.returns-then-x-eq4
returns-then-x-eq4 c = handle_rests _ _ _ _ c.if-more.false c.if-x-eq4.true c.idled.ensures

pub returns : goal.returns
returns c = handle_raises _ _ _ _ c.if-more.false c.if-x-eq4.false c.raised.ensures
