-- Each return is the turn of what is decided with the lock.
use Rattle.std.proofs.Common.{◌≡◌, ℕ, List, length, arith}
use Rattle.model.specs.Buffers.{free, entry_at}
use Rattle.model.specs.Plans.{hold_plan}
use Rattle.records.specs.declared.Session.{Session}
use Rattle.records.specs.declared.Lock.{Lock}
use Rattle.records.specs.declared.Plan.{Plan}
use Rattle.records.specs.declared.Plan.TheVariants.{Mark, EnterMark}
use Rattle.calls.proofs.Choices.{Choice, hold_choice, when_told, when_new, when_marked}
use Rattle.calls.proofs.Entering.{when_claimed, when_found}
use Rattle.refusals.proofs.Turned.{turn_refused, turn_rolled_back}
use Rattle.calls.proofs.Turning.{turn_marked, turn_enter_marked}
use Rattle.calls.proofs.take_hold.Goals as goal

-- what is decided, with the lock
chosen : (vs log : List ℕ) (x : Session) (l : Lock) (c : ℕ) (p : Plan) → p ≡ hold_plan (length vs) log x free c
    → Choice (length vs) log x l c (λ k. Mark k (entry_at log k).current) (EnterMark c) p (hold_plan (length vs) log x l c)
chosen vs log x l c p e = rw e (hold_choice _ _ _ _ _)

pub mark-requires : goal.mark-requires
mark-requires c =
    let a = c.args in
    let h = when_marked (chosen a.values.now a.log.now a.x a.l a.cell a.p c.requires.1) _ _ c.in-Mark.is in
    omega (arith, h, c.requires.0)

pub returns-in-Mark : goal.returns-in-Mark
returns-in-Mark c =
    let a = c.args in
    turn_marked _ _ _ _ _ _ _ _ (when_told (chosen a.values.now a.log.now a.x a.l a.cell a.p c.requires.1) _ tt c.in-Mark.is) c.mark.ensures c.keeps.ensures

pub returns-in-Refuse : goal.returns-in-Refuse
returns-in-Refuse c =
    let a = c.args in
    turn_refused _ _ _ _ _ _ (when_told (chosen a.values.now a.log.now a.x a.l a.cell a.p c.requires.1) _ tt c.in-Refuse.is) c.keeps-in-Refuse.ensures

pub returns-in_default-enter : goal.returns-in_default-enter
returns-in_default-enter c =
    let a = c.args in
    let w = when_new (chosen a.values.now a.log.now a.x a.l a.cell a.p c.requires.1) (λ k. c.in_default.not-Mark k _) (λ r. c.in_default.not-Refuse r) in
    let d = c.in_default-enter.ensures in
    rw d.1 (turn_rolled_back _ _ _ _ _ (rw (when_claimed _ _ _ d.0) at w.3) c.rolled_back.ensures)

pub enter-requires : goal.enter-requires
enter-requires c =
    let a = c.args in
    let w = when_new (chosen a.values.now a.log.now a.x a.l a.cell a.p c.requires.1) (λ k. c.in_default.not-Mark k _) (λ r. c.in_default.not-Refuse r) in
    (c.requires.0, w.1, w.0)

pub mark-requires-2 : goal.mark-requires-2
mark-requires-2 c =
    let a = c.args in
    let w = when_new (chosen a.values.now a.log.now a.x a.l a.cell a.p c.requires.1) (λ k. c.in_default.not-Mark k _) (λ r. c.in_default.not-Refuse r) in
    omega (arith, w.1, c.requires.0, c.enter.auto.log)

pub enters-requires : goal.enters-requires
enters-requires c =
    let a = c.args in
    (when_new (chosen a.values.now a.log.now a.x a.l a.cell a.p c.requires.1) (λ k. c.in_default.not-Mark k _) (λ r. c.in_default.not-Refuse r)).1

pub returns : goal.returns
returns c =
    let a = c.args in
    let w = when_new (chosen a.values.now a.log.now a.x a.l a.cell a.p c.requires.1) (λ k. c.in_default.not-Mark k _) (λ r. c.in_default.not-Refuse r) in
    let f = when_found _ _ _ _ c.in-Some.ensures.0 in
    turn_enter_marked _ _ _ _ _ _ _ _ _ (rw f.0 at w.3) f.1 c.in-Some.ensures.1 c.mark-2.ensures c.enters.ensures
