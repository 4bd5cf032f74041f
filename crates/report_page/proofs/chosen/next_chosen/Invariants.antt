use Rattle.std.proofs.Common.{◌≡◌, ◌≤◌, length}
use Rattle.report_page.specs.Lines.{lines_where}
use Rattle.report_page.proofs.chosen.next_chosen.Given as goal

-- none was chosen so far
abbrev pub invariant-loop-rest : goal.invariant-loop-rest
invariant-loop-rest g l = record {
  same : lines_where (g.C.Choice.chooses l.choice) l.rest ≡ lines_where (g.C.Choice.chooses l.choice) l.text;
  shorter : length l.rest ≤ length l.text;
}

abbrev pub decreases-loop-rest : goal.decreases-loop-rest
decreases-loop-rest g l = length l.rest
