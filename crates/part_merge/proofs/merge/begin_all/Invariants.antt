use Rattle.std.proofs.Common.{◌≡◌, ◌<◌, ◌≤◌, ℕ, map, slice_index_or}
use Rattle.pcap.specs.Written.{written_header}
use Rattle.pcap.specs.Sink.{Drain}
use Rattle.part_merge.specs.Blame.{sink_health}
use Rattle.part_merge.specs.Left.{IsAdded}
use Rattle.part_merge.proofs.merge.begin_all.Given as goal

-- those in front were begun, and the others are as before
abbrev pub invariant-loop-i : goal.invariant-loop-i
invariant-loop-i g l = record {
  begun : (d : Drain) (k : ℕ) → k < l.i → IsAdded written_header (slice_index_or l.initial.port_sinks k d) (slice_index_or l.port_sinks k d);
  others : (d : Drain) (k : ℕ) → l.i ≤ k → slice_index_or l.port_sinks k d ≡ slice_index_or l.initial.port_sinks k d;
  writes : map sink_health l.port_sinks ≡ map sink_health l.initial.port_sinks;
}
