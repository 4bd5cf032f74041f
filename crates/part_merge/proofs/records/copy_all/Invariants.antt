use Rattle.std.proofs.Common.{◌≡◌, ◌++◌, ℕ, List, length}
use Rattle.std.specs.Io.KnownBytes.{Keeps}
use Rattle.timeline.specs.declared.source.Tap.{Tap}
use Rattle.part_merge.specs.Blame.{captures_health, outputs_health}
use Rattle.part_merge.specs.Left.{AreLeft}
use Rattle.part_merge.specs.Merged.{records_at}
use Rattle.part_merge.specs.Moved.{AreRecords, taps}
use Rattle.part_merge.proofs.CopiedRecords.{CopiedSoFar}
use Rattle.part_merge.proofs.records.copy_all.Given as goal

-- some of the records were copied, and the others are left
abbrev pub invariant-loop-tap : goal.invariant-loop-tap
invariant-loop-tap g l = record {
  ports : length l.captures.ports.items ≡ length l.initial.captures.ports.items;
  sinks : length l.port_sinks ≡ length l.captures.ports.items;
  copied : (records : List (Tap × List ℕ)) (rest : Tap → List ℕ) → l.initial.places ≡ taps records → AreRecords (length l.initial.captures.ports.items) records
      → AreLeft (λ t. records_at t records ++ rest t) l.initial.captures.ports.items l.initial.captures.underlay
      → CopiedSoFar records rest l.places (length l.initial.captures.ports.items) l.captures.ports.items l.captures.underlay l.initial.port_sinks l.initial.underlay_sink l.port_sinks l.underlay_sink;
  reads : captures_health l.captures.ports.items l.captures.underlay ≡ captures_health l.initial.captures.ports.items l.initial.captures.underlay;
  lines : Keeps (g.W.Output.written l.initial.decisions) (g.W.Output.written l.decisions);
  writes : outputs_health l.port_sinks l.underlay_sink (g.W.Output.failures l.decisions) ≡ outputs_health l.initial.port_sinks l.initial.underlay_sink (g.W.Output.failures l.initial.decisions);
}

abbrev pub decreases-loop-tap : goal.decreases-loop-tap
decreases-loop-tap g l = length l.places
