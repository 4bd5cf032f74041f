use Rattle.wire.proofs.IpSumLemmas.{folded-word4}
use Rattle.wire.proofs.ip_udp.header_sum.add_word.Goals as goal

pub returns-clause-sum : goal.returns-clause-sum
returns-clause-sum c = rw (c.from.ensures, c.read_u32.ensures) (folded-word4 c.args.text.now c.args.sum c.requires.there)
