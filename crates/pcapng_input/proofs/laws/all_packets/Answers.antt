use Rattle.pcapng_input.proofs.Told.{tells_the_packets}
use Rattle.pcapng_input.proofs.laws.all_packets.Goals as goal

pub returns : goal.returns
returns c = tells_the_packets
