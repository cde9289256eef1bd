-- What a row by computation sees through, named once: `unfolding computing` opens each definition by which a call or a set-up is computed, and
-- `unfolding counting` those by which the words of demand 3 are read off calls and answers.
use Rattle.std.specs.Int.Count.{ones, ones_in}
use Rattle.model.specs.Search.{or_else, find, lower, lowest, below, tally}
use Rattle.model.specs.Readers.{odd, assign, other_readers}
use Rattle.model.specs.Buffers.{size, session_at, with_session, log_in, on_log, word, cell_at, entry_at, slot_in, entry_of, look_in, publishes, publishes_in, target_in, appended, with_dirty, with_held, updated, marked, lock_at, set_lock, on_lock, sweep, join, leave, vacate, withdraw, claim, acquire, our_caps, cap, has_caps, rise_from, passes, fits, all_fit, lengths_match, lengths_fit, fresh}
use Rattle.model.specs.Plans.{entries_fit, record_fits, guard, known, claimed, new_cell, read_slot, write_slot, write_capped, seal_target, promote_plan, advance_target, advance_plan, peek_slot, read_plan, hold_slot, hold_plan, write_plan, seal_plan, peek_plan, plan}
use Rattle.model.specs.Effects.{rolled_back, reads_dropped, is_left, handled, release_answer, plan_effect, answer, shown, after}
use Rattle.model.specs.Step.{plan_of, step, answer_of, set_up_refusal, set_up_answer, set_up}
use Rattle.model.specs.Load.{idle_below, all_idle, all_classed, load_refusal, load_answer, load}
use Rattle.model.specs.ManyReads.{reads, list_refusal, read_many, read_many_effect}
use Rattle.model.specs.Told.{ending, tells, reads_tell}
use Rattle.model.specs.History.{run, events, told, transaction, wrote, changed_in, held_in, value_written, dirtied, reads_before_writing, values_found, snapshot, moves_in, move_number, commit, committed}

unfoldable pub computing : Unit {0}
unfolding ones ones_in or_else find lower lowest below odd assign other_readers size session_at with_session log_in on_log word cell_at entry_at slot_in entry_of look_in publishes publishes_in target_in appended with_dirty with_held updated marked lock_at set_lock on_lock sweep join leave vacate withdraw claim acquire our_caps cap has_caps rise_from passes fits all_fit lengths_match lengths_fit fresh rolled_back reads_dropped is_left handled release_answer plan_effect answer shown after entries_fit record_fits guard known claimed new_cell read_slot write_slot write_capped seal_target promote_plan advance_target advance_plan peek_slot read_plan hold_slot hold_plan write_plan seal_plan peek_plan plan plan_of step answer_of set_up_refusal set_up_answer set_up idle_below all_idle all_classed load_refusal load_answer load reads list_refusal read_many read_many_effect
computing = tt

unfoldable pub counting : Unit {0}
unfolding ending tells reads_tell run events told transaction wrote changed_in held_in value_written dirtied reads_before_writing values_found snapshot moves_in move_number commit committed tally
counting = tt
