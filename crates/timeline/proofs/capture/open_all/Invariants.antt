use Rattle.std.proofs.Common.{◌≡◌, ◌+◌, ◌++◌, drop}
use Rattle.std.specs.List.{AllByRecursion}
use Rattle.timeline.specs.Faults.{opening_faults}
use Rattle.timeline.specs.Inputs.{HasBoundedRecords, inputs, inputs_from, opened_captures}
use Rattle.timeline.proofs.capture.open_all.Given as goal

-- what is open so far, and what is left, are the captures of the run
abbrev pub invariant-loop-octets : goal.invariant-loop-octets
invariant-loop-octets l = record {
  port : l.port ≡ l.octets-index;
  captures : l.captures.items ++ opened_captures (inputs_from (l.port + 1) (drop l.octets-index l.ports) l.underlay) ≡ opened_captures (inputs l.ports l.underlay);
  faults : opening_faults (inputs_from (l.port + 1) (drop l.octets-index l.ports) l.underlay) ≡ opening_faults (inputs l.ports l.underlay);
  records : AllByRecursion HasBoundedRecords l.captures.items;
}
