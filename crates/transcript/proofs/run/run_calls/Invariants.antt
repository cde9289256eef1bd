-- What is written and the text of the items from the place on, from the store as it is, are the whole text; each call took four bytes at least, and 21 bytes
-- of output at most.
use Rattle.std.proofs.Common.{◌≡◌, ◌≤◌, length, ◌+◌, ◌-◌, ◌*◌}
use Rattle.model.specs.Buffers.{ours}
use Rattle.contracts.specs.Lent.{store_of}
use Rattle.items.specs.Items.{items_at}
use Rattle.lines.specs.Output.{put}
use Rattle.replay_text.specs.Transcript.{calls_text}
use Rattle.transcript.proofs.run.run_calls.Given as goal

abbrev pub invariant-loop-call : goal.invariant-loop-call
invariant-loop-call l =
    record {
      inside : l.place ≤ length l.input;
      read : 4 * l.ordinal ≤ l.place + 4;
      same : l.page.output.ghost_name ≡ l.initial.page.output.ghost_name;
      written : l.page.at + 21 ≤ 21 * l.ordinal;
      room : length l.page.output.now ≡ length l.initial.page.output.now;
      cells : length l.values ≡ length l.initial.values;
      text : put l.page.output.now l.page.at
          (calls_text l.ordinal (store_of ours l.values l.classes l.readers l.claimants l.exclusives l.logs l.sessions) (items_at l.input l.place))
          ≡ put l.initial.page.output.now l.initial.page.at
          (calls_text 1 (store_of ours l.initial.values l.classes l.initial.readers l.initial.claimants l.initial.exclusives l.initial.logs l.initial.sessions)
          (items_at l.input l.initial.place));
    }

abbrev pub decreases-loop-call : goal.decreases-loop-call
decreases-loop-call l = length l.input - l.place
