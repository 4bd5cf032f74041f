use Rattle.std.proofs.Common.{◌≡◌, ◌++◌, take, drop}
use Rattle.text_advice.specs.Line.{bare}
use Rattle.text_advice.proofs.line.bare.Given as goal

abbrev pub invariant-loop-i : goal.invariant-loop-i
invariant-loop-i l = take l.i l.text ++ bare (drop l.i l.text) ≡ bare l.text
