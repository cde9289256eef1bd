-- The session's log is lent on as a part of the logs.
use Rattle.session_log.proofs.Logs.{cut_is}
use Rattle.turns.proofs.InLogs.{put_in}
use Rattle.any_call.proofs.any.Goals as goal

pub returns : goal.returns
returns c = let a = c.args in rw (cut_is a.logs.now a.session) at (put_in a.session a.logs.now _ _ _ _ _ _ _ _ c.take_call.ensures)
