use Rattle.std.proofs.Common.{◌≡◌, ◌≤◌, ◌-◌, ◌++◌, length, map}
use Rattle.json_lines.specs.Outcomes.{words}
use Rattle.json_lines.specs.Pieces.{piece_of, tails}
use Rattle.json_lines.proofs.line.Line.of.Given as goal

abbrev pub invariant-loop-rest : goal.invariant-loop-rest
invariant-loop-rest l = record {
  cut : map piece_of l.pieces.items ++ tails (words l.rest) ≡ tails (words l.line);
  few : length l.pieces.items ≤ 19;
}

abbrev pub decreases-loop-rest : goal.decreases-loop-rest
decreases-loop-rest l = 19 - length l.pieces.items
