use Rattle.std.proofs.Common.{◌≡◌, ◌≤◌, ◌+◌, ◌*◌, ◌++◌, length, drop}
use Rattle.std.specs.List.{flat_map}
use Rattle.explanation.specs.Text.{tail_line}
use Rattle.explanation.proofs.text.put_tails.Given as goal

-- with what is left put too, it is all
abbrev pub invariant-loop-tail : goal.invariant-loop-tail
invariant-loop-tail l = record {
  text : l.lines ++ flat_map tail_line (drop l.tail-index l.tails) ≡ l.fn.lines ++ flat_map tail_line l.tails;
  room : length l.lines ≤ length l.fn.lines + 52 * l.tail-index;
}
