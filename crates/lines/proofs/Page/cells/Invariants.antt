-- The loop keeps that what is written and the lines of the cells that are left are the whole.
use Rattle.std.proofs.Common.{length, drop, ◌+◌, ◌*◌, ◌≡◌, ◌≤◌}
use Rattle.replay_text.specs.Lines.{cell_lines}
use Rattle.lines.specs.Output.{put}
use Rattle.lines.proofs.Page.cells.Given as goal

abbrev pub invariant-loop-i : goal.invariant-loop-i
invariant-loop-i l =
    record {
      same : l.self.output.ghost_name ≡ l.fn.self.output.ghost_name;
      room : length l.self.output.now ≡ length l.fn.self.output.now;
      bound : l.self.at ≤ l.fn.self.at + 18 * l.i;
      text : put l.self.output.now l.self.at (cell_lines l.i (drop l.i l.values)) ≡ put l.fn.self.output.now l.fn.self.at (cell_lines 0 l.values);
    }
