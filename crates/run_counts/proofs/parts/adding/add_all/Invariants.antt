use Rattle.std.proofs.Common.{◌≡◌, length}
use Rattle.run_counts.proofs.Adding.{IsJoined, IsLeft}
use Rattle.run_counts.specs.Told.{sum_of}
use Rattle.run_counts.proofs.parts.adding.add_all.Given as goal

-- so far each count has the other, and those behind are as they were
abbrev pub invariant-loop-index : goal.invariant-loop-index
invariant-loop-index l = record {
  size : length l.counts ≡ length l.fn.counts;
  far : IsJoined sum_of 0 l.fn.counts l.others l.counts l.index;
  behind : IsLeft sum_of 0 l.fn.counts l.others l.counts l.index;
}
