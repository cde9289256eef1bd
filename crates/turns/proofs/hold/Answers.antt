-- The session's log is lent on as a part of the logs.
use Rattle.session_log.proofs.Logs.{cut_is, cut_long, log_fits}
use Rattle.turns.proofs.InLogs.{put_in}
use Rattle.turns.proofs.hold.Goals as goal

pub slice_bounds-take_hold-end : goal.slice_bounds-take_hold-end
slice_bounds-take_hold-end c = log_fits _ c.requires.0 c.args.logs.now c.requires.1

pub take_hold-requires : goal.take_hold-requires
take_hold-requires c = (cut_long _ _ c.requires.1 c.requires.0, rw (cut_is c.args.logs.now c.args.session) c.requires.2)

pub returns : goal.returns
returns c = let a = c.args in rw (cut_is a.logs.now a.session) at (put_in a.session a.logs.now _ _ _ _ _ _ _ _ c.take_hold.ensures)
