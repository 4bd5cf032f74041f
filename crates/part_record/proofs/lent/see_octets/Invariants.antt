use Rattle.std.proofs.Common.{◌≡◌, take}
use Rattle.part_record.specs.Lent.{octets_told}
use Rattle.part_record.proofs.lent.see_octets.Given as goal

abbrev pub invariant-loop-index : goal.invariant-loop-index
invariant-loop-index l = record {
  same : take l.index (octets_told l.digests.ports.items) ≡ take l.index l.ports;
}
