-- The place is that of the word that the plan names; past both words the plan is a refusal, and there is no word.
use Rattle.plans.proofs.Peeks.{peek_neither}
use Rattle.contracts.specs.Lent.{store_of}
use Rattle.c_api.proofs.Laws.{place_store, place_none}
use Rattle.c_api.proofs.rukkanei_peek_place.Goals as goal

pub returns-in-ShowStore : goal.returns-in-ShowStore
returns-in-ShowStore c = λ G ss o. place_store _ _ _ (c.peek_plan-p.ensures G ss o) c.in-ShowStore.is

pub returns-in_default : goal.returns-in_default
returns-in_default c =
    let a = c.args in
    λ G ss o.
    let σ = store_of G a.values.now a.classes.now a.readers.now a.claimants.now a.exclusives.now a.logs.now ss in
    let e = c.peek_plan-p.ensures G ss o in
    place_none _ _ _ e (peek_neither σ a.session a.cell _ e c.in_default.not-ShowStore c.in_default.not-ShowLog).1
