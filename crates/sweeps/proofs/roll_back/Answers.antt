-- Each entry's cell has a lock, and the session withdraws from it.
use Rattle.std.proofs.Common.{rules, arith, length, refl, ap, ◌∙◌}
use Rattle.model.specs.Buffers.{Locks, cell_at}
use Rattle.model.proofs.Laws.{below_is}
use Rattle.sweeps.proofs.Sweeps.{roll_start, roll_more, as_many}
use Rattle.sweeps.proofs.roll_back.Goals as goal

pub loop-i-init : goal.loop-i-init
loop-i-init c = ((refl, refl, refl), refl, roll_start _ _ _)

pub withdraw_at-requires : goal.withdraw_at-requires
withdraw_at-requires c =
    let lt = below_is _ (cell_at _) _ c.requires.cells c.loop-i.i c.loop-i-test.true in
    (c.requires.session, omega (arith, lt, c.cell_at.ensures))

pub loop-i-preserved : goal.loop-i-preserved
loop-i-preserved c =
    let w = c.withdraw_at.ensures in
    let l = c.loop-i.invariant in
    (search rules, ap (λ (L : Locks). length L.readers) w.withdrawn ∙ as_many _ _ _ ∙ l.1, roll_more _ _ _ _ _ _ _ c.cell_at.ensures l.2 w.withdrawn)
