-- The letter, the cell and the value.
use Rattle.std.proofs.Common.{arith}
use Rattle.replay_text.specs.Lines.{cell_line}
use Rattle.replay_text.proofs.Decimals.{length-pair}
use Rattle.lines.proofs.Puts.{left, then}
use Rattle.lines.proofs.Page.cell.Goals as goal

pub pair-requires : goal.pair-requires
pair-requires c = left _ _ _ c.text.ensures.text _ (omega (arith, length-pair 3 9 c.args.cell c.args.value 10 (omega arith) (omega arith)))

pub returns-clause-text : goal.returns-clause-text
unfolding cell_line
returns-clause-text c = then _ _ _ _ c.text.ensures.text c.pair.ensures.text
