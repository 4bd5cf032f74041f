use Rattle.pcap.proofs.Readings.{records-next}
use Rattle.pcap.proofs.text.laws.one_by_one.Goals as goal

pub returns : goal.returns
returns c = records-next
