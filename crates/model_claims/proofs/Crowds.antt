-- A session that waits for all fifteen others: the orders and cases of model/specs with reader sets of sixteen, by computation.
use mathlib.Core.Path.{◌≡◌, refl}
use mathlib.Core.List.{map}
use Rattle.model.specs.Computing.{computing}
use Rattle.model.specs.Orders.{result, expected, given, answers_from, values_after}
use Rattle.model.specs.Waits.{fifteen_others}
use Rattle.model.specs.Cases as row
use Rattle.model.specs.Cases.{crowds, actual, store_with}

pub fifteen_hold : result fifteen_others ≡ expected fifteen_others
unfolding result expected fifteen_others given answers_from values_after computing
fifteen_hold = refl

pub crowds_hold : map {B = row.Result} actual crowds ≡ map {B = row.Result} row.expected crowds
unfolding crowds actual store_with row.expected computing
crowds_hold = refl
