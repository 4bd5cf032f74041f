use Rattle.std.proofs.Common.{◌≡◌, length}
use Rattle.json_lines.specs.Outcomes.{words}
use Rattle.json_lines.specs.Forms.{form_of}
use Rattle.json_lines.proofs.fitting.form_of.Given as goal

abbrev pub invariant-loop-rest : goal.invariant-loop-rest
invariant-loop-rest l = form_of l.rest (words l.line) ≡ form_of l.forms (words l.line)

abbrev pub decreases-loop-rest : goal.decreases-loop-rest
decreases-loop-rest l = length l.rest
