use Rattle.pcap.proofs.Blocks.{told_alone}
use Rattle.pcap.proofs.stream.laws.nothing_held_back.Goals as goal

pub returns : goal.returns
returns c = told_alone
