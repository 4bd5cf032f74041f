use Rattle.std.proofs.Common.{[]}
use Rattle.pcap.proofs.Bounds.{header_answered}
use Rattle.pcap.proofs.stream.source.Source.open.Goals as goal

pub returns-in-Ok-clause-bound : goal.returns-in-Ok-clause-bound
returns-in-Ok-clause-bound g c =
    let read = c.in-Ok.ensures.header [] in
    header_answered _ read.header _ c.answer_of.result read.standing_is (c.answer_of.ensures [])
