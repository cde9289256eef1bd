-- The loop keeps that the sessions already seen are idle.
use Rattle.std.proofs.Common.{◌≡◌, true}
use Rattle.model.specs.Load.{idle_below}
use Rattle.loads.proofs.are_idle.Given as goal

abbrev pub invariant-loop-session : goal.invariant-loop-session
invariant-loop-session l = idle_below l.session-index l.fn.sessions ≡ true
