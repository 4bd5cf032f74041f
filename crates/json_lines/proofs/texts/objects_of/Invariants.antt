use Rattle.std.proofs.Common.{◌≡◌, ◌++◌, length}
use Rattle.json_lines.specs.Texts.{objects_in}
use Rattle.json_lines.proofs.texts.objects_of.Given as goal

abbrev pub invariant-loop-rest : goal.invariant-loop-rest
invariant-loop-rest l = l.out.items ++ objects_in l.tables l.rest ≡ objects_in l.tables l.text

abbrev pub decreases-loop-rest : goal.decreases-loop-rest
decreases-loop-rest l = length l.rest
