use Rattle.std.proofs.Common.{◌≡◌, take}
use Rattle.std.specs.Io.KnownBytes.{Appends}
use Rattle.pcap.specs.Sink.{joined}
use Rattle.pcap.proofs.stream.write.write_parts.Given as goal

abbrev pub invariant-loop-part : goal.invariant-loop-part
invariant-loop-part g l = record {
  appended : Appends (g.W.Output.written l.initial.output) (g.W.Output.written l.output) (joined (take l.part-index l.parts));
  quiet : g.W.Output.failures l.output ≡ g.W.Output.failures l.initial.output;
}
