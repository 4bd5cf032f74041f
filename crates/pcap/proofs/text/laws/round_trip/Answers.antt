use Rattle.pcap.proofs.RoundTrip.{opened-written}
use Rattle.pcap.proofs.text.laws.round_trip.Goals as goal

pub returns : goal.returns
returns c = opened-written
