-- The answer is one that a hold gives, since it is the model's.
use Rattle.contracts.specs.Lent.{buffers_of}
use Rattle.c_api.proofs.Answers.{hold_gives}
use Rattle.c_api.proofs.rukkanei_hold.Goals as goal

pub read_in_numbers-requires : goal.read_in_numbers-requires
read_in_numbers-requires c =
    let a = c.args in
    hold_gives _ (buffers_of a.values.now a.classes.now a.readers.now a.claimants.now a.exclusives.now a.logs.now) _ _ _ _ _ c.hold.ensures
