-- The answer is one that a seal gives, since it is the model's.
use Rattle.contracts.specs.Lent.{buffers_of}
use Rattle.c_api.proofs.Answers.{seal_gives}
use Rattle.c_api.proofs.rukkanei_seal.Goals as goal

pub seal_in_numbers-requires : goal.seal_in_numbers-requires
seal_in_numbers-requires c =
    let a = c.args in
    seal_gives _ (buffers_of a.values.now a.classes.now a.readers.now a.claimants.now a.exclusives.now a.logs.now) _ _ _ _ c.seal.ensures
