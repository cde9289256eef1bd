-- Tables of caps, and set-up, writes, loads and lists by them, give and leave what the rows of specs/OwnCaps.antt say, by computation over the definitions.
use mathlib.Core.Path.{◌≡◌, refl}
use mathlib.Core.Bool.{Bool}
use mathlib.Core.List.{[], ◌∷◌, map}
use Rattle.model.specs.Buffers.{passes}
use Rattle.model.specs.Cases.{Result}
use Rattle.model.specs.Computing.{computing}
use Rattle.model.specs.History.{run, events}
use Rattle.model.specs.OwnCaps.{tables, passing, started_by, starts_by, lendings, Wrote, wrote_by, writes_by, writes, others, answers_without, loaded_by, loads_by, loads, Ends, ends_of, expected_of, courses}

pub tables_pass : map {B = Bool} passes tables ≡ passing
unfolding tables passing computing
tables_pass = refl

pub lendings_by_hold : map {B = Result} started_by lendings ≡ map {B = Result} starts_by lendings
unfolding lendings started_by starts_by computing
lendings_by_hold = refl

pub writes_by_hold : map {B = Wrote} wrote_by writes ≡ map {B = Wrote} writes_by writes
unfolding writes wrote_by writes_by computing
writes_by_hold = refl

-- a write, the last of them, is 7
pub others_answer : answers_without ≡ 100 ∷ 101 ∷ 101 ∷ 105 ∷ 2 ∷ 100 ∷ 14 ∷ 7 ∷ []
unfolding answers_without others computing
others_answer = refl

pub loads_hold : map {B = Result} loaded_by loads ≡ map {B = Result} loads_by loads
unfolding loads loaded_by loads_by computing
loads_hold = refl

pub courses_hold : map {B = Ends} ends_of courses ≡ map {B = Ends} expected_of courses
unfolding courses ends_of expected_of run events computing
courses_hold = refl
