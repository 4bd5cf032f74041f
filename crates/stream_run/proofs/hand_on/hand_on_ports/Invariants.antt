use Rattle.std.proofs.Common.{◌≡◌, ◌<◌, ℕ, [], length, slice_index_or}
use Rattle.pcap.specs.Sink.{Drain}
use Rattle.capture_run.specs.Outputs.{Outputs}
use Rattle.stream_run.specs.Stage.{Drains, StandAt}
use Rattle.stream_run.proofs.hand_on.hand_on_ports.Given as goal

-- the texts that stood before stand, and the first captures hold nothing back
abbrev pub invariant-loop-index : goal.invariant-loop-index
invariant-loop-index g l = record {
  many : length l.outputs.ports ≡ length l.initial.outputs.ports;
  out : (x : Drain) (k : ℕ) → k < l.index → k < length l.outputs.ports → (slice_index_or l.outputs.ports k x).held ≡ [];
  stand : (start : Drains) (o : Outputs) → StandAt start l.initial.outputs o → StandAt start l.outputs o;
}
