use Rattle.std.proofs.Common.{◌≡◌, ◌-◌, ◌^◌, ◌<◌, ℕ, List, length, map}
use Rattle.part_merge.specs.Blame.{outputs_health, part_health}
use Rattle.part_merge.specs.Merged.{IsRising, Piece, merged}
use Rattle.part_merge.specs.Numbered.{AddsEvents}
use Rattle.part_merge.specs.Whole.{AllHold, AllRise, HaveAll}
use Rattle.part_merge.proofs.Merging.{MergedSoFar}
use Rattle.part_merge.proofs.merge.put_events.Given as goal

-- some events were put, and the others are left
abbrev pub invariant-loop-first : goal.invariant-loop-first
invariant-loop-first g l = record {
  counts : HaveAll (length l.initial.port_sinks) l.parts;
  sinks : length l.port_sinks ≡ length l.initial.port_sinks;
  fits : l.last < 2 ^ 64;
  events : (pieces : List (List Piece)) (cuts : List (List (List ℕ))) → AllHold (length l.initial.port_sinks) pieces cuts l.initial.parts → AllRise pieces → IsRising 0 (merged pieces)
      → MergedSoFar (length l.initial.port_sinks) (merged pieces) cuts l.last l.parts l.initial.port_sinks l.initial.underlay_sink (g.W.Output.written l.initial.decisions) l.port_sinks l.underlay_sink (g.W.Output.written l.decisions);
  numbered : AddsEvents l.last (g.W.Output.written l.initial.decisions) (g.W.Output.written l.decisions);
  reads : map part_health l.parts ≡ map part_health l.initial.parts;
  writes : outputs_health l.port_sinks l.underlay_sink (g.W.Output.failures l.decisions) ≡ outputs_health l.initial.port_sinks l.initial.underlay_sink (g.W.Output.failures l.initial.decisions);
}

abbrev pub decreases-loop-first : goal.decreases-loop-first
decreases-loop-first g l = 2 ^ 64 - l.last
