-- A tenth of the number is below it.
use Rattle.lines.proofs.Page.+number.Given as goal

abbrev pub decreases-number : goal.decreases-number
decreases-number l = l.n
