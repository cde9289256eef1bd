-- A session that is not idle is one of the 16; after the last one all are idle.
use Rattle.std.proofs.Common.{◌≡◌, refl, sym, arith}
use Rattle.model.specs.Buffers.{session_at}
use Rattle.model.specs.Load.{idle_below}
use Rattle.loads.proofs.Idling.{idle_fails, idle_on, idle_end}
use Rattle.loads.proofs.are_idle.Goals as goal

pub loop-session-init : goal.loop-session-init
unfolding idle_below
loop-session-init c = refl

pub returns-then-session-ne0 : goal.returns-then-session-ne0
unfolding session_at
returns-then-session-ne0 c = idle_fails c.args.sessions c.loop-session.session-index c.loop-session-test.true c.if-session-ne0.true

pub loop-session-preserved : goal.loop-session-preserved
unfolding session_at
loop-session-preserved c = idle_on c.args.sessions c.loop-session.session-index c.loop-session.invariant c.if-session-ne0.false

pub returns : goal.returns
returns c = let e : c.loop-session.session-index ≡ 16 = omega (arith, c.loop-session-test.false, c.loop-session.auto.session-index-end) in idle_end c.args.sessions (rw (sym e) c.loop-session.invariant)
