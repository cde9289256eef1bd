-- The session's log is lent on as a part of the logs.
use Rattle.session_log.proofs.Logs.{cut_is, cut_long, log_fits}
use Rattle.turns.proofs.InLogs.{put_in}
use Rattle.turns.proofs.write.Goals as goal

pub slice_bounds-take_write-end : goal.slice_bounds-take_write-end
slice_bounds-take_write-end c = log_fits _ c.requires.0 c.args.logs.now c.requires.1

pub take_write-requires : goal.take_write-requires
take_write-requires c = (cut_long _ _ c.requires.1 c.requires.0, rw (cut_is c.args.logs.now c.args.session) c.requires.2)

pub returns : goal.returns
returns c =
    λ T ks e.
    let a = c.args in
    rw (cut_is a.logs.now a.session) at (put_in a.session a.logs.now _ _ _ _ _ _ _ _ (c.take_write.ensures T ks (rw (cut_is a.logs.now a.session) e)))
