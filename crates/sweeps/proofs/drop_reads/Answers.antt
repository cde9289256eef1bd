-- Before the first entry that publishes nothing is marked; after each entry the cells marked are those that entries so far publish.
use Rattle.std.proofs.Common.{◌<◌, arith}
use Rattle.model.specs.Buffers.{cell_at}
use Rattle.model.proofs.Laws.{below_is}
use Rattle.sweeps.proofs.Sweeps.{drop_more, marks_none, marks_more}
use Rattle.sweeps.proofs.drop_reads.Goals as goal

pub loop-i-init : goal.loop-i-init
loop-i-init c = let d = rw c.in-Some.is at c.drop_unpublished.ensures in (λ R e w. w, rw c.new-written.ensures (marks_none _ _ d.1))

pub drop_at-requires : goal.drop_at-requires
drop_at-requires c =
    let lt = below_is _ (cell_at _) _ c.requires.0.cells c.loop-i.i c.loop-i-test.true in
    (c.requires.0.session, omega arith, omega arith, omega arith)

pub loop-i-preserved : goal.loop-i-preserved
loop-i-preserved c =
    let l = c.loop-i in
    let h = c.loop-i-test.true in
    let lR = below_is _ (cell_at _) _ c.requires.0.cells l.i h in
    let lt : cell_at c.args.log.now l.i < 1024 = omega arith in (
      λ R e w. drop_more _ _ _ _ _ R _ h lt (omega arith) l.invariant.1 (l.invariant.0 R e w) _ c.drop_at.ensures.1,
      marks_more _ _ _ l.invariant.1 lt _ c.drop_at.ensures.0,
    )
