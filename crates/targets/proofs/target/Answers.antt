-- Each turn finds a cell not above the target: none, the target itself, or one to be passed.
use Rattle.std.proofs.Common.{rules, sym, ◌∙◌, arith}
use Rattle.session_log.proofs.Targets.{slot_some, first_judges, unheld, turn_ends, turn_here, turn_next, turn_from}
use Rattle.targets.proofs.target.Goals.{in_default-via-in-None-1, in_default-via-in-Some+else-publishes}
use Rattle.targets.proofs.target.Goals as goal

pub publishes-requires : goal.publishes-requires
publishes-requires c = omega (arith, (slot_some _ _ _ (sym c.in-Some.ensures)).0)

pub loop-cell-smaller : goal.loop-cell-smaller
loop-cell-smaller c = omega (arith, turn_from _ _ _ _ _ c.lowest_publishing-cell.ensures c.if-n-cell.false)

pub loop-cell-preserved : goal.loop-cell-preserved
loop-cell-preserved c =
    c.loop-cell.invariant
    ∙ turn_next _ _ _ _ _ c.lowest_publishing-cell.ensures c.if-n-cell.false
    (elim c.in_default.branch [
      | in_default-via-in-None-1 w ↦ unheld _ _ _ (search rules)
      | in_default-via-in-Some+else-publishes w ↦ first_judges _ _ _ (sym w.in-Some.ensures) ∙ sym w.publishes.ensures ∙ w.if-publishes.false
    ])

pub returns-then-n-cell : goal.returns-then-n-cell
returns-then-n-cell c = turn_ends _ _ _ _ _ c.lowest_publishing-cell.ensures c.requires.2 c.if-n-cell.true ∙ sym c.loop-cell.invariant

pub returns-then-publishes : goal.returns-then-publishes
returns-then-publishes c =
    turn_here _ _ _ _ _ c.lowest_publishing-cell.ensures c.if-n-cell.false c.in-Some.ensures (sym c.publishes.ensures ∙ c.if-publishes.true)
    ∙ sym c.loop-cell.invariant
