-- The worked inputs print what they must, by computation over the definitions of fields, calls and text.
use mathlib.Core.Path.{◌≡◌, refl}
use mathlib.Core.List.{map}
use Rattle.model.specs.Computing.{computing, counting}
use Rattle.field.specs.Field.{call_at, reading_of, reading_at}
use Rattle.field.specs.LittleEndian.{number, number_at}
use Rattle.field.specs.Table.{table, find, layout_of}
use Rattle.replay_text.specs.Decimal.{digits, decimal}
use Rattle.items.specs.Items.{next_of_field, next_of, following, items_within, items_at, values, classes, later, calls}
use Rattle.replay_text.specs.Lines.{word, size_line, set_up_line, field_line, cell_line, answer_words, answer_line, answer_lines, cell_lines, end_line}
use Rattle.replay_text.specs.Transcript.{given, calls_text, after_set_up, set_up_text, items_text, transcript}
use Rattle.replay_text.specs.Worked.{Worked, worked, replayed}

pub worked_print : map {B = Worked} replayed worked ≡ worked
unfolding computing counting call_at reading_of reading_at number number_at table find layout_of digits decimal next_of_field next_of following items_within items_at values classes later calls word size_line set_up_line field_line cell_line answer_words answer_line answer_lines cell_lines end_line given calls_text after_set_up set_up_text items_text transcript worked replayed
worked_print = refl
