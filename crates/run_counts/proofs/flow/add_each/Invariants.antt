use Rattle.std.proofs.Common.{◌≡◌, length}
use Rattle.run_counts.specs.Keeping.{no_flow}
use Rattle.run_counts.specs.Totals.{flow_with}
use Rattle.run_counts.proofs.Adding.{IsJoined, IsLeft}
use Rattle.run_counts.proofs.flow.add_each.Given as goal

-- so far each flow has the other, and those behind are as they were
abbrev pub invariant-loop-index : goal.invariant-loop-index
invariant-loop-index l = record {
  size : length l.flows ≡ length l.fn.flows;
  far : IsJoined flow_with no_flow l.fn.flows l.others l.flows l.index;
  behind : IsLeft flow_with no_flow l.fn.flows l.others l.flows l.index;
}
