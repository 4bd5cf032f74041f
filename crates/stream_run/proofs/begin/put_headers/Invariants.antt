use Rattle.std.proofs.Common.{◌≡◌, length}
use Rattle.stream_run.specs.Stage.{Drains, StandAt, no_texts}
use Rattle.stream_run.proofs.Beginning.{BegunSoFar}
use Rattle.stream_run.proofs.begin.put_headers.Given as goal

abbrev pub invariant-loop-index : goal.invariant-loop-index
invariant-loop-index g l = record {
  many : length l.outputs.ports ≡ length l.initial.outputs.ports;
  begun : (start : Drains) → StandAt start l.initial.outputs (no_texts (length l.initial.outputs.ports)) → BegunSoFar (length l.initial.outputs.ports) l.index start l.outputs;
}
