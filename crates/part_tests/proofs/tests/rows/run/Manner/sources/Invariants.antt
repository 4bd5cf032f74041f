use Rattle.std.proofs.Common.{◌≡◌, All, length}
use Rattle.pcap.specs.Source.{New, Stream}
use Rattle.part_tests.proofs.tests.rows.run.Manner.sources.Given as goal

abbrev pub invariant-loop-index : goal.invariant-loop-index
invariant-loop-index l = record {
  count : length l.sources.items ≡ l.index;
  fresh : All (λ (source : Stream). source.standing ≡ New) l.sources.items;
}
