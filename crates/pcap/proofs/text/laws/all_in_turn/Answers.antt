use Rattle.pcap.proofs.Calls.{takes_all_in_turn}
use Rattle.pcap.proofs.text.laws.all_in_turn.Goals as goal

pub returns : goal.returns
returns c = takes_all_in_turn
