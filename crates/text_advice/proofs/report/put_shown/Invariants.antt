use Rattle.std.proofs.Common.{◌≡◌, ◌++◌, map, drop}
use Rattle.text_advice.specs.Advice.{shown}
use Rattle.text_advice.proofs.report.put_shown.Given as goal

abbrev pub invariant-loop-c : goal.invariant-loop-c
invariant-loop-c l = l.text.items ++ map shown (drop l.c-index l.found) ≡ l.initial.text.items ++ map shown l.found
