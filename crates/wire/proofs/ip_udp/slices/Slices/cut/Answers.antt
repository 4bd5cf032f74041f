use Rattle.wire.proofs.CutLemmas.{sliced-cut}
use Rattle.wire.proofs.ip_udp.slices.Slices.cut.Goals as goal

pub returns : goal.returns
returns c = sliced-cut c.args.header c.args.end c.args.octets.now c.requires.ordered
