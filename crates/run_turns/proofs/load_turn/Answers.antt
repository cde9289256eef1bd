-- The answer of `loads::load_caps`, of all locks and logs of the lengths given.
use Rattle.run_turns.proofs.ByTable.{loads_on}
use Rattle.run_turns.proofs.load_turn.Goals as goal

pub returns : goal.returns
returns c = loads_on _ _ _ _ _ _ _ _ _ _ c.load_caps-loaded.ensures c.from.ensures
