use Rattle.std.proofs.Common.{◌≡◌, ◌++◌, take, drop}
use Rattle.text_advice.specs.Line.{dotted}
use Rattle.text_advice.proofs.line.dotted.Given as goal

abbrev pub invariant-loop-i : goal.invariant-loop-i
invariant-loop-i l = take l.i l.text ++ dotted (drop l.i l.text) ≡ dotted l.text
