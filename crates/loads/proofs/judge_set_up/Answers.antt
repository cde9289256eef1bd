-- Lengths that fit are as many classes as values.
use Rattle.loads.proofs.Loading.{even}
use Rattle.loads.proofs.judge_set_up.Goals as goal

pub all_fit-requires : goal.all_fit-requires
all_fit-requires c = (c.if-caps-ne16.false, even c.args.lengths _ _ c.requires _ c.fit.ensures c.if-not-fit.false)
