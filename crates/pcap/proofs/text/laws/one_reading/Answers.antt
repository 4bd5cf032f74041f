use Rattle.pcap.proofs.Opened.{opened-found, opened-is}
use Rattle.pcap.proofs.text.laws.one_reading.Goals as goal

pub returns-clause-found : goal.returns-clause-found
returns-clause-found c = opened-found

pub returns-clause-only : goal.returns-clause-only
returns-clause-only c = opened-is
