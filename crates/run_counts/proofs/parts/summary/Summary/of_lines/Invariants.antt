use Rattle.std.proofs.Common.{◌≡◌, length}
use Rattle.run_counts.specs.Told.{nothing}
use Rattle.run_counts.specs.Kept.{told_in}
use Rattle.run_counts.specs.Rows.{rows_of, told_by}
use Rattle.run_counts.proofs.parts.summary.Summary.of_lines.Given as goal

-- with the lines that are left it is told what all lines tell
abbrev pub invariant-loop-line : goal.invariant-loop-line
invariant-loop-line l = told_by (told_in l.summary) (rows_of l.rest) ≡ told_by nothing (rows_of l.text)

abbrev pub decreases-loop-line : goal.decreases-loop-line
decreases-loop-line l = length l.rest
