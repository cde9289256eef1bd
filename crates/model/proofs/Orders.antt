-- The starred orders of document 01, and those with values written back, with holds and with waits, give what they must, by computation over the step definitions.
use mathlib.Core.Path.{◌≡◌, refl}
use mathlib.Core.List.{map}
use Rattle.model.specs.Computing.{computing}
use Rattle.model.specs.InTheWay.{others_in_the_way}
use Rattle.model.specs.Search.{tally}
use Rattle.model.specs.Holding.{skew_held, skew_after, skew_back, reader_between, hold_alone, hold_then_write, hold_then_back, write_then_hold, read_then_hold, two_holders, hold_past_claim, holding}
use Rattle.model.specs.Orders.{Result, given, answers_from, values_after, result, expected, listing, skew, skew_unsealed, read_past_claim, write_at_cap, write_above_cap, last_session, no_such_session, begin_twice, begin_seal, abandon_publishing, orders, unpromoted, half_published, traps, both_back, there_and_back, back_and_there, one_changed, changed_meanwhile, back_unsealed, found_later, written_back}
use Rattle.model.specs.Waits.{three_others, holders_count, each_its_own, waits, Count, Way, store_after, count_of, ways}

pub orders_hold : map {B = Result} result orders ≡ map {B = Result} expected orders
unfolding result expected orders listing skew skew_unsealed read_past_claim write_at_cap write_above_cap last_session no_such_session begin_twice begin_seal abandon_publishing given answers_from values_after computing
orders_hold = refl

pub traps_hold : map {B = Result} result traps ≡ map {B = Result} expected traps
unfolding result expected traps unpromoted half_published given answers_from values_after computing
traps_hold = refl

pub written_back_hold : map {B = Result} result written_back ≡ map {B = Result} expected written_back
unfolding result expected written_back both_back there_and_back back_and_there one_changed changed_meanwhile back_unsealed found_later given answers_from values_after computing
written_back_hold = refl

pub holding_holds : map {B = Result} result holding ≡ map {B = Result} expected holding
unfolding result expected holding skew_held skew_after skew_back reader_between hold_alone hold_then_write hold_then_back write_then_hold read_then_hold two_holders hold_past_claim given answers_from values_after computing
holding_holds = refl

pub waits_hold : map {B = Result} result waits ≡ map {B = Result} expected waits
unfolding result expected waits three_others holders_count each_its_own given answers_from values_after computing
waits_hold = refl

pub ways_hold : map {B = Count} count_of ways ≡ map {B = Count} (λ (w : Way). w.count) ways
unfolding count_of ways store_after others_in_the_way tally computing
ways_hold = refl
