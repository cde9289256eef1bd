-- What stands at the place says what the items from there on are: a cell is one more of them, or one too many, and takes at least four bytes;
-- anything else closes them.
use Rattle.std.proofs.Common.{sym, subst, arith, rules}
use Rattle.items.specs.Items.{following}
use Rattle.items.proofs.Scanning.{Advances, advances, items_by, items_step, closed, Closed, standing, one_more, too_many, closes}
use Rattle.items.proofs.read_cells.Goals as goal

pub returns : goal.returns
returns c =
    let inv = c.loop-cell.invariant in
    closes _ _ _ _ _ inv.4 (subst Closed (sym (items_step _ _)) (closed _ _ _ c.in_default.ensures)) inv.0 inv.1

pub returns-then-full : goal.returns-then-full
unfolding following
returns-then-full c =
    let seen = standing _ _ c.in-Some.ensures in
    let here = items_by _ _ _ seen in
    let step = subst (Advances _ _) (sym seen) (advances _ _) in
    too_many _ _ _ _ _ _ _ _ c.loop-cell.invariant.4 here c.if-full.true (omega arith)

pub overflow_add-place : goal.overflow_add-place
overflow_add-place c =
    let step = subst (Advances _ _) (sym (standing _ _ c.in-Some.ensures)) (advances _ _) in
    omega (arith, step.inside, step.four)

pub loop-cell-smaller : goal.loop-cell-smaller
loop-cell-smaller c =
    let step = subst (Advances _ _) (sym (standing _ _ c.in-Some.ensures)) (advances _ _) in
    omega (arith, step.inside, step.four)

pub loop-cell-preserved : goal.loop-cell-preserved
unfolding following
loop-cell-preserved c =
    let seen = standing _ _ c.in-Some.ensures in
    let here = items_by _ _ _ seen in
    let step = subst (Advances _ _) (sym seen) (advances _ _) in
    (omega arith, omega (arith, step.inside), search rules, search rules, one_more _ _ _ _ _ _ _ _ c.loop-cell.invariant.4 here (omega arith) (omega arith))
