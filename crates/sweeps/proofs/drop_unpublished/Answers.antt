-- Each entry's cell has a lock; one that does not publish is left.
use Rattle.std.proofs.Common.{◌<◌, sym, ◌∙◌, arith}
use Rattle.model.specs.Buffers.{cell_at}
use Rattle.model.proofs.Laws.{below_is}
use Rattle.sweeps.proofs.Sweeps.{drop_start, drop_unmarked, none_more}
use Rattle.sweeps.proofs.drop_unpublished.Goals as goal

pub loop-i-init : goal.loop-i-init
loop-i-init c = (λ j l. absurd (omega arith), drop_start _ _ _ _)

pub leave_at-requires : goal.leave_at-requires
leave_at-requires c =
    let lt = below_is _ (cell_at _) _ c.requires.0.cells c.loop-i.i c.loop-i-test.true in
    (c.requires.0.session, omega (arith, lt, c.cell_at.ensures))

pub loop-i-preserved : goal.loop-i-preserved
loop-i-preserved c =
    let l = c.loop-i in
    let h = c.loop-i-test.true in
    let lR = below_is _ (cell_at _) _ c.requires.0.cells l.i h in
    let lt : cell_at c.args.log.now l.i < 1024 = omega arith in
    let p = sym c.publishes.ensures ∙ c.if-publishes.false in (
      none_more _ _ l.invariant.0 p,
      drop_unmarked _ _ _ _ _ _ h lt lR l.invariant.0 p l.invariant.1 _ c.cell_at.ensures _ c.leave_at.ensures,
    )
