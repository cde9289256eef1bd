-- There is no first entry whose cell is not below n.
use Rattle.std.proofs.Common.{rules}
use Rattle.look_ups.proofs.Entries.{below_is}
use Rattle.look_ups.proofs.all_below.Goals as goal

pub returns : goal.returns
returns c = below_is _ _ _ _ _ _ c.first.ensures c.is_none.ensures (λ k t h. search rules)
