-- Each return is the turn of what is decided with the lock.
use Rattle.std.proofs.Common.{◌≡◌, ℕ, List, length, arith}
use Rattle.model.specs.Buffers.{free}
use Rattle.model.specs.Plans.{write_plan}
use Rattle.records.specs.declared.Session.{Session}
use Rattle.records.specs.declared.Lock.{Lock}
use Rattle.records.specs.declared.Plan.{Plan}
use Rattle.records.specs.declared.Plan.TheVariants.{Update, EnterUpdate}
use Rattle.calls.specs.Pieces.{WriteDecided}
use Rattle.calls.proofs.Choices.{Choice, write_choice, when_told, when_new, when_updated}
use Rattle.calls.proofs.Entering.{when_claimed, when_found}
use Rattle.refusals.proofs.Turned.{turn_refused, turn_rolled_back}
use Rattle.calls.proofs.Turning.{turn_updated, turn_enter_updated}
use Rattle.calls.proofs.take_write.Goals as goal

module _ (vs log : List ℕ) (x : Session) (l : Lock) (c v : ℕ) (p : Plan) where
  -- what is decided, with the lock, by a table and classes by which it was decided without
  chosen_by : (T ks : List ℕ) → p ≡ write_plan T ks (length vs) log x free c v
      → Choice (length vs) log x l c (λ k. Update k v) (EnterUpdate c v) p (write_plan T ks (length vs) log x l c v)
  chosen_by T ks e = rw e (write_choice _ _ _ _ _ T ks _)

  -- by those that it was decided by
  chosen : (d : WriteDecided (length vs) log x c v p)
      → Choice (length vs) log x l c (λ k. Update k v) (EnterUpdate c v) p (write_plan d.caps d.classes (length vs) log x l c v)
  chosen d = chosen_by d.caps d.classes d.is

pub update-requires : goal.update-requires
update-requires c =
    let a = c.args in
    let h = when_updated (chosen a.values.now a.log.now a.x a.l a.cell a.written a.p c.requires.1) _ _ c.in-Update.is in
    omega (arith, h, c.requires.0)

pub returns-in-Update : goal.returns-in-Update
returns-in-Update c =
    let a = c.args in
    λ T ks e. turn_updated _ _ _ _ _ _ _ _ (when_told (chosen_by a.values.now a.log.now a.x a.l a.cell a.written a.p T ks e) _ tt c.in-Update.is) c.update.ensures c.keeps.ensures

pub returns-in-Refuse : goal.returns-in-Refuse
returns-in-Refuse c =
    let a = c.args in
    λ T ks e. turn_refused _ _ _ _ _ _ (when_told (chosen_by a.values.now a.log.now a.x a.l a.cell a.written a.p T ks e) _ tt c.in-Refuse.is) c.keeps-in-Refuse.ensures

pub returns-in_default-enter : goal.returns-in_default-enter
returns-in_default-enter c =
    let a = c.args in
    λ T ks e.
    let w = when_new (chosen_by a.values.now a.log.now a.x a.l a.cell a.written a.p T ks e) (λ k. c.in_default.not-Update k _) (λ r. c.in_default.not-Refuse r) in
    let d = c.in_default-enter.ensures in
    rw d.1 (turn_rolled_back _ _ _ _ _ (rw (when_claimed _ _ _ d.0) at w.3) c.rolled_back.ensures)

pub enter-requires : goal.enter-requires
enter-requires c =
    let a = c.args in
    let w = when_new (chosen a.values.now a.log.now a.x a.l a.cell a.written a.p c.requires.1) (λ k. c.in_default.not-Update k _) (λ r. c.in_default.not-Refuse r) in
    (c.requires.0, w.1, w.0)

pub update-requires-2 : goal.update-requires-2
update-requires-2 c =
    let a = c.args in
    let w = when_new (chosen a.values.now a.log.now a.x a.l a.cell a.written a.p c.requires.1) (λ k. c.in_default.not-Update k _) (λ r. c.in_default.not-Refuse r) in
    omega (arith, w.1, c.requires.0, c.enter.auto.log)

pub enters-requires : goal.enters-requires
enters-requires c =
    let a = c.args in
    (when_new (chosen a.values.now a.log.now a.x a.l a.cell a.written a.p c.requires.1) (λ k. c.in_default.not-Update k _) (λ r. c.in_default.not-Refuse r)).1

pub returns : goal.returns
returns c =
    let a = c.args in
    λ T ks e.
    let w = when_new (chosen_by a.values.now a.log.now a.x a.l a.cell a.written a.p T ks e) (λ k. c.in_default.not-Update k _) (λ r. c.in_default.not-Refuse r) in
    let f = when_found _ _ _ _ c.in-Some.ensures.0 in
    turn_enter_updated _ _ _ _ _ _ _ _ _ _ (rw f.0 at w.3) f.1 c.in-Some.ensures.1 c.update-2.ensures c.enters.ensures
