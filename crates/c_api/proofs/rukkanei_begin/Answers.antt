-- The answer is one that a begin gives, since it is the model's.
use Rattle.contracts.specs.Lent.{buffers_of}
use Rattle.c_api.proofs.Answers.{begin_gives}
use Rattle.c_api.proofs.rukkanei_begin.Goals as goal

pub begin_in_numbers-requires : goal.begin_in_numbers-requires
begin_in_numbers-requires c =
    let a = c.args in
    begin_gives _ (buffers_of a.values.now a.classes.now a.readers.now a.claimants.now a.exclusives.now a.logs.now) _ _ _ _ c.begin.ensures
