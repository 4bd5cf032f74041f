use Rattle.std.proofs.Common.{◌≡◌, length}
use Rattle.json_lines.specs.Outcomes.{words}
use Rattle.json_lines.specs.Texts.{table_for}
use Rattle.json_lines.proofs.texts.table_for.Given as goal

abbrev pub invariant-loop-rest : goal.invariant-loop-rest
invariant-loop-rest l = table_for l.rest (words l.line) ≡ table_for l.tables (words l.line)

abbrev pub decreases-loop-rest : goal.decreases-loop-rest
decreases-loop-rest l = length l.rest
