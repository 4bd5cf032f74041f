use Rattle.pcap.proofs.Parts.{Spends-trans}
use Rattle.pcap.proofs.stream.laws.all_reads_count.Goals as goal

pub returns : goal.returns
returns c = Spends-trans
