use Rattle.pcap.proofs.Parts.{all_taken, part_taken}
use Rattle.pcap.proofs.stream.output.Output.write_all.Goals as goal

pub returns-clause-ok : goal.returns-clause-ok
returns-clause-ok g c = all_taken _ _ c.args.octets.now _ c.hand_on-result.result.1 c.hand_on-result.ensures.all c.hand_on-result.ensures.taken

pub returns-clause-err : goal.returns-clause-err
returns-clause-err g c = part_taken _ _ c.args.octets.now _ c.hand_on-result.result.1 c.hand_on-result.ensures.part c.hand_on-result.ensures.taken
