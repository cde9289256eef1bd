-- The text takes the place of as many bytes.
use Rattle.std.proofs.Common.{arith}
use Rattle.lines.proofs.Puts.{part_put}
use Rattle.lines.proofs.Page.text.Goals as goal

pub returns-clause-text : goal.returns-clause-text
returns-clause-text c = part_put _ _ _ _ _ c.copy_from_slice.ensures.after (omega arith) c.requires
