-- The words of demand 3 are what the tables of model/specs/Words.antt say, by computation.
use mathlib.Core.Path.{◌≡◌, refl}
use mathlib.Core.List.{List, [], ◌∷◌, map}
use Rattle.records.specs.declared.Call.TheVariants.{Begin, Seal}
use Rattle.model.specs.Caps.{cap_of}
use Rattle.model.specs.Computing.{computing, counting}
use Rattle.model.specs.History.{Action, one_call, many_reads, starting_value}
use Rattle.model.specs.Isolation.{firsts}
use Rattle.model.specs.Serial.{Serial, serial_step, serial}
use Rattle.model.specs.Told.{Told, ReadOf, tells, reads_tell}
use Rattle.model.specs.Words.{Telling, tellings, ReadsTelling, reads_tellings, Word, Row, word_of, rows, FoundRow, found_of_row, found_rows, SerialRow, serial_of, serial_rows, midway}

pub tellings_hold : map {B = List Told} (λ (r : Telling). tells r.call r.answer r.found) tellings ≡ map {B = List Told} (λ (r : Telling). r.told) tellings
unfolding tellings counting
tellings_hold = refl

pub reads_tellings_hold : map {B = List Told} (λ (r : ReadsTelling). reads_tell r.cells r.values r.answer) reads_tellings ≡ map {B = List Told} (λ (r : ReadsTelling). r.told) reads_tellings
unfolding reads_tellings counting
reads_tellings_hold = refl

pub words_hold : map {B = Word} word_of rows ≡ map {B = Word} (λ (r : Row). r.word) rows
unfolding rows word_of counting
words_hold = refl

pub found_hold : map {B = List ReadOf} found_of_row found_rows ≡ map {B = List ReadOf} (λ (r : FoundRow). r.found) found_rows
unfolding found_rows found_of_row counting
found_hold = refl

pub serial_holds : map {B = Serial} serial_of serial_rows ≡ map {B = Serial} (λ (r : SerialRow). r.serial) serial_rows
unfolding serial_rows serial_of serial_step serial counting
serial_holds = refl

pub starting_values : (starting_value (3 ∷ 5 ∷ []) 0 ≡ 3) × (starting_value (3 ∷ 5 ∷ []) 1 ≡ 5)
starting_values = (refl, refl)

pub caps_of : (cap_of (midway 1 4 16 0) 0 ≡ 8) × (cap_of (midway 1 4 16 0) 1 ≡ 6)
unfolding midway computing
caps_of = (refl, refl)

-- many reads are one of three actions
abbrev three : List Action
three = one_call (Seal 0) ∷ many_reads 0 (0 ∷ 1 ∷ []) 2 ∷ one_call (Begin 0) ∷ []

pub first_actions : (firsts 0 three ≡ []) × (firsts 1 three ≡ one_call (Begin 0) ∷ []) × (firsts 2 three ≡ many_reads 0 (0 ∷ 1 ∷ []) 2 ∷ one_call (Begin 0) ∷ []) × (firsts 3 three ≡ three)
unfolding firsts
first_actions = (refl, refl, refl, refl)
