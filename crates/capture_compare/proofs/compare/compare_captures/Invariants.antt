use Rattle.std.proofs.Common.{◌+◌}
use Rattle.capture_compare.specs.Turns.{IsShown, weight}
use Rattle.capture_compare.proofs.compare.compare_captures.Given as goal

abbrev pub invariant-turns : goal.invariant-turns
invariant-turns g l = IsShown g.W.Onlooker.sees l.fn.onlooker l.onlooker l.fn.manner l.fn.clock l.fn.sent l.fn.received l.sent l.received l.sending l.receiving l.comparison l.aside

abbrev pub decreases-turns : goal.decreases-turns
decreases-turns g l = weight l.sending.next l.sent + weight l.receiving.next l.received
