-- The part is that of every store with such a run.
use Rattle.std.proofs.Common.{refl, sym}
use Rattle.run_changes.specs.Run.{lent_on}
use Rattle.run_turns.proofs.OnRun.{same_lengths}
use Rattle.run_turns.proofs.peek_part.Goals as goal

pub returns : goal.returns
returns c =
    let a = c.args in
    λ G cs L j q.
    c.peek_part.ensures G (lent_on a.values.now cs L a.logs.now) a.sessions
    (same_lengths _ _ _ a.logs.now _ c.lengths_on-lengths.ensures a.values.now cs L refl j q) refl refl (sym c.record_of-x.ensures)
