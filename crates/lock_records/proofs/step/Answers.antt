-- The turn says what its change asks under each table by which the call goes: every call goes by ours.
use Rattle.model.specs.Buffers.{ours}
use Rattle.model.proofs.Tables.{goes_by_ours}
use Rattle.lock_records.proofs.step.Goals as goal

pub sweep-requires : goal.sweep-requires
sweep-requires c = (c.take_turn-t.ensures ours (goes_by_ours c.args.call)).0
