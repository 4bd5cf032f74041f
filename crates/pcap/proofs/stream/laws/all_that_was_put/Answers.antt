use Rattle.pcap.proofs.Runs.{writes_what_was_put}
use Rattle.pcap.proofs.stream.laws.all_that_was_put.Goals as goal

pub returns : goal.returns
returns c = writes_what_was_put
