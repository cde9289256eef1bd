-- A place found is that of an entry.
use Rattle.std.proofs.Common.{arith, sym}
use Rattle.session_log.proofs.Targets.{slot_some}
use Rattle.cell_reads.proofs.Reads.value_of.Goals as goal

pub current-requires : goal.current-requires
current-requires c = omega (arith, (slot_some _ _ _ (sym c.in_ok-k.ensures)).0, c.requires)
