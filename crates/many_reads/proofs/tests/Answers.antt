-- Past 7 and 1 the session's log is one of sixteen.
use Rattle.std.proofs.Common.{sym, ◌∙◌}
use Rattle.session_log.proofs.Logs.{log_long}
use Rattle.many_reads.proofs.Lengths.{low, long, few}
use Rattle.many_reads.proofs.tests.Goals as goal

pub of_session-requires : goal.of_session-requires
of_session-requires c =
    let e = c.in_ok-admit.ensures in
    (low _ _ e, sym c.requires ∙ long _ _ e)

pub runs-requires : goal.runs-requires
runs-requires c =
    let e = c.in_ok-admit.ensures in
    (log_long _ _ (sym c.requires ∙ long _ _ e) (low _ _ e) _ c.of_session.ensures, few _ _ e)
