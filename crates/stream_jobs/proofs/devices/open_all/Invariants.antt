use Rattle.std.proofs.Common.{◌≡◌, All, length}
use Rattle.pcap.specs.Source.{New, Stream}
use Rattle.stream_jobs.proofs.devices.open_all.Given as goal

abbrev pub invariant-loop-number : goal.invariant-loop-number
invariant-loop-number l = record {
  count : length l.sources.items ≡ l.number;
  fresh : All (λ (source : Stream). source.standing ≡ New) l.sources.items;
}
