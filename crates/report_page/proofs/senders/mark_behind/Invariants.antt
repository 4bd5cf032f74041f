use Rattle.std.proofs.Common.{◌≡◌, length}
use Rattle.report_page.specs.Senders.{mark_behind}
use Rattle.report_page.proofs.senders.mark_behind.Given as goal

-- what is left is put behind what was found
abbrev pub invariant-loop-rest : goal.invariant-loop-rest
invariant-loop-rest l = mark_behind l.found l.rest ≡ mark_behind l.mark l.text

abbrev pub decreases-loop-rest : goal.decreases-loop-rest
decreases-loop-rest l = length l.rest
