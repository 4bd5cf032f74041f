use Rattle.std.proofs.Common.{rules}
use Rattle.pcap.proofs.Parts.{front_more}
use Rattle.pcap.proofs.kind.front.take_head.Goals as goal

pub loop-length-preserved : goal.loop-length-preserved
loop-length-preserved g c =
    let read = c.in_ok-n.ensures in
    let before = c.loop-length.invariant in
    record {
      fits = search rules;
      size = search rules;
      quiet = search rules;
      taken = front_more _ _ _ c.loop-length.octets c.read_behind.new.octets c.loop-length.length c.in_ok-n.n read.front before.taken read.taken;
    }
