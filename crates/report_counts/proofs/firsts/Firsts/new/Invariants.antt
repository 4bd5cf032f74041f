use Rattle.std.proofs.Common.{◌≡◌, ◌≤◌, vec_capacity}
use Rattle.report_counts.specs.Firsts.{none_yet}
use Rattle.report_counts.proofs.firsts.Firsts.new.Given as goal

abbrev pub invariant-loop-number : goal.invariant-loop-number
invariant-loop-number g l = record {
  kept : l.kept.items ≡ none_yet l._number;
  room : l.size ≤ vec_capacity l.kept;
}
