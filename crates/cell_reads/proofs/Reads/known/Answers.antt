-- A cell that was not in the set is not in the log; it is in the set now, which covers the log as before.
use Rattle.std.proofs.Common.{sym, ◌∙◌, ap}
use Rattle.cell_reads.specs.Cells.{current_of}
use Rattle.cell_reads.proofs.Marks.{unmarked, inserted}
use Rattle.cell_reads.proofs.Reads.known.Goals as goal

pub returns-then-unmarked-clause-value : goal.returns-then-unmarked-clause-value
returns-then-unmarked-clause-value c =
    let a = c.args.self.now in
    ap (current_of a.log.now) (unmarked _ _ _ _ c.requires.0.1 (sym c.contains-unmarked.ensures ∙ c.if-unmarked.true))

pub returns-then-unmarked-clause-inserted : goal.returns-then-unmarked-clause-inserted
returns-then-unmarked-clause-inserted c = rw c.insert.ensures (inserted _ _ _ _ c.requires.0.1 c.requires.1)

pub returns-clause-inserted : goal.returns-clause-inserted
returns-clause-inserted c = rw c.insert.ensures (inserted _ _ _ _ c.requires.0.1 c.requires.1)
