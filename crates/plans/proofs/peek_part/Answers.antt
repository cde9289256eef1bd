-- The part is the word that the plan shows, where it lies, or no word.
use Rattle.std.proofs.Common.{refl}
use Rattle.plans.proofs.Peeks.{store_inside, log_inside, shows_store, shows_log, shows_nothing}
use Rattle.plans.proofs.peek_part.Goals as goal

pub slice_bounds-result-end : goal.slice_bounds-result-end
slice_bounds-result-end c = store_inside _ c.args.values c.args.logs c.requires _ _ _ _ c.peek_plan_in.ensures c.in-ShowStore.is

pub returns-in-ShowStore : goal.returns-in-ShowStore
returns-in-ShowStore c = shows_store _ c.args.values c.args.logs c.requires _ _ _ _ c.peek_plan_in.ensures c.in-ShowStore.is

pub slice_bounds-result-end-in-ShowLog : goal.slice_bounds-result-end-in-ShowLog
slice_bounds-result-end-in-ShowLog c = log_inside _ c.args.values c.args.logs c.requires _ _ _ _ c.peek_plan_in.ensures c.in-ShowLog.is

pub returns-in-ShowLog : goal.returns-in-ShowLog
returns-in-ShowLog c = shows_log _ c.args.values c.args.logs c.requires _ _ _ _ c.peek_plan_in.ensures c.in-ShowLog.is

pub returns-in_default : goal.returns-in_default
returns-in_default c =
    shows_nothing _ c.args.values c.args.logs c.requires _ _ _ _ c.peek_plan_in.ensures c.in_default.not-ShowStore c.in_default.not-ShowLog _ refl
