use Rattle.std.proofs.Common.{◌≡◌, drop}
use Rattle.text_advice.specs.Line.{past_blanks}
use Rattle.text_advice.proofs.line.past_blanks.Given as goal

abbrev pub invariant-loop-i : goal.invariant-loop-i
invariant-loop-i l = past_blanks (drop l.i l.text) ≡ past_blanks l.text
