-- One arm for each call, whose plan it is.
use Rattle.std.proofs.Common.{◌∙◌}
use Rattle.model.specs.Buffers.{our_caps}
use Rattle.model.specs.Plans.{plan}
use Rattle.any_call.proofs.AnyCall.{advances}
use Rattle.any_call.proofs.take_call.Goals as goal

pub take_write-requires : goal.take_write-requires
take_write-requires c = (c.requires.0, record { caps = our_caps; classes = c.args.classes.now; is = c.write_plan-p.ensures ∙ rw c.requires.2 })

pub returns-in-Begin : goal.returns-in-Begin
unfolding plan
returns-in-Begin c = rw c.in-Begin.is (c.take_begin.ensures _)

pub returns-in-Read : goal.returns-in-Read
unfolding plan
returns-in-Read c = rw c.in-Read.is c.take_read.ensures

pub returns-in-Write : goal.returns-in-Write
unfolding plan
returns-in-Write c = rw c.in-Write.is (c.take_write.ensures our_caps c.args.classes.now (c.write_plan-p.ensures ∙ rw c.requires.2))

pub returns-in-Seal : goal.returns-in-Seal
unfolding plan
returns-in-Seal c = rw c.in-Seal.is (c.take_seal.ensures _)

pub returns-in-Advance : goal.returns-in-Advance
returns-in-Advance c = rw c.in-Advance.is (advances _ _ _ _ _ _ _ _ c.due_slot-due.ensures c.take_advance.ensures)

pub returns-in-Abandon : goal.returns-in-Abandon
unfolding plan
returns-in-Abandon c = rw c.in-Abandon.is (c.take_abandon.ensures _)

pub returns-in-Peek : goal.returns-in-Peek
unfolding plan
returns-in-Peek c = rw c.in-Peek.is (c.take_peek.ensures _)

pub returns-in-Hold : goal.returns-in-Hold
unfolding plan
returns-in-Hold c = rw c.in-Hold.is c.take_hold.ensures
