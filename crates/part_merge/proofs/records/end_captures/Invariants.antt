use Rattle.std.proofs.Common.{◌≡◌, ◌≤◌, ℕ, length, map, slice_index_or}
use Rattle.pcap.specs.Source.{Stream}
use Rattle.part_merge.specs.Blame.{source_health}
use Rattle.part_merge.proofs.records.end_captures.Given as goal

-- nothing is left in those that come
abbrev pub invariant-loop-i : goal.invariant-loop-i
invariant-loop-i g l = record {
  others : (s : Stream) (k : ℕ) → l.i ≤ k → slice_index_or l.ports k s ≡ slice_index_or l.initial.ports k s;
  same : length l.ports ≡ length l.initial.ports;
  reads : map source_health l.ports ≡ map source_health l.initial.ports;
}
