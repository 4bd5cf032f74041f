use Rattle.pcap.proofs.Peeking.{head_first}
use Rattle.pcap.specs.Head.{octets_in}
use Rattle.pcap.proofs.kind.front.peek.Goals as goal

pub returns-in-Ok-clause-head : goal.returns-in-Ok-clause-head
returns-in-Ok-clause-head g c = head_first _ _ (octets_in c.in-Ok.head) c.in-Ok.ensures.taken c.in-Ok.ensures.size c.in-Ok.ensures.end
