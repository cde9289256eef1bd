-- Each return is a way through `due_on`.
use Rattle.std.proofs.Common.{◌∙◌, arith, rules}
use Rattle.refusals.proofs.Ways.{listed}
use Rattle.advance.proofs.Ways.{due_odd, due_early, due_next}
use Rattle.advance.proofs.due_slot.Goals as goal

pub returns-then-not-entries_fit : goal.returns-then-not-entries_fit
returns-then-not-entries_fit c = due_odd _ _ _ _ c.entries_fit.ensures c.if-not-entries_fit.true

pub returns-then-x-lt2 : goal.returns-then-x-lt2
returns-then-x-lt2 c = due_early _ _ _ _ c.entries_fit.ensures c.if-not-entries_fit.false c.if-x-lt2.true

pub next_two-requires : goal.next_two-requires
next_two-requires c =
    let w = listed _ _ _ _ c.entries_fit.ensures c.if-not-entries_fit.false c.if-x-lt2.false in
    (omega (arith, w.count), search rules, w.cells)

pub returns : goal.returns
returns c =
    c.ok_or.ensures.value ∙ due_next _ _ _ _ c.entries_fit.ensures c.if-not-entries_fit.false c.if-x-lt2.false _ c.next_two.ensures
