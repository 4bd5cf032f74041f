use Rattle.std.proofs.Common.{◌≡◌, ◌≤◌, ◌+◌, length}
use Rattle.report_page.specs.Lines.{lines_where}
use Rattle.report_page.proofs.chosen.count_of.Given as goal

-- what was counted is all but what is chosen of the rest
abbrev pub invariant-loop-behind : goal.invariant-loop-behind
invariant-loop-behind g l = record {
  counted : l.count + length (lines_where (g.C.Choice.chooses l.choice) l.rest) ≡ length (lines_where (g.C.Choice.chooses l.choice) l.text);
  few : l.count + length l.rest ≤ length l.text;
}

abbrev pub decreases-loop-behind : goal.decreases-loop-behind
decreases-loop-behind g l = length l.rest
