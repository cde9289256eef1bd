-- An entry found is one of at most 32.
use Rattle.std.proofs.Common.{sym, arith}
use Rattle.session_log.proofs.Targets.{slot_some}
use Rattle.plans.proofs.write_capped.Goals as goal

pub overflow_cast-result : goal.overflow_cast-result
overflow_cast-result c = let l = (slot_some _ _ _ (sym c.in-Some.ensures)).0 in omega (arith, c.requires.1)
