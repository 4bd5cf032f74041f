use Rattle.std.proofs.Common.{◌≡◌, ◌≤◌, ◌-◌, length, take, vec_capacity}
use Rattle.std.specs.Io.KnownBytes.{Keeps, prepend_known}
use Rattle.line_stream.specs.Filled.{HasNoEnd}
use Rattle.line_stream.specs.Lines.{longest_line}
use Rattle.line_stream.proofs.fill.fill_line.Given as goal

-- what stands in the room and what the input has left are still all that there was, and what was seen of it has no line feed
abbrev pub invariant-loop-read : goal.invariant-loop-read
invariant-loop-read g l = record {
  fits : l.read ≤ length l.room.items;
  size : length l.room.items ≤ longest_line;
  kept : length l.initial.room.items ≤ length l.room.items;
  reserved : longest_line ≤ vec_capacity l.room;
  seen : l.seen ≤ l.read;
  none : HasNoEnd (take l.seen l.room.items);
  quiet : g.R.Input.failures l.input ≡ g.R.Input.failures l.initial.input;
  text : Keeps (prepend_known (take l.filled l.initial.room.items) (g.R.Input.remaining l.initial.input)) (prepend_known (take l.read l.room.items) (g.R.Input.remaining l.input));
}

abbrev pub decreases-loop-read : goal.decreases-loop-read
decreases-loop-read g l = longest_line - l.read
