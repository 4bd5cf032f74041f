use Rattle.std.proofs.Common.{◌∙◌, ap, drop}
use Rattle.pcap.specs.Ahead.{Ahead}
use Rattle.pcap.proofs.Aheads.{left_between, size_between}
use Rattle.pcap.proofs.stream.ahead.ReadAhead.take.Goals as goal

pub returns-clause-ahead : goal.returns-clause-ahead
returns-clause-ahead g c =
    let here = c.self.inside in
    let ahead = ap (λ (a : Ahead). a.ahead) c.self.view_is in
    let size = size_between here.room.items here.from here.to c.args.n c.args.self.now.ahead c.self.invariant.ahead c.requires ahead in
    left_between here.room.items here.from here.to c.args.n size ∙ ap (drop c.args.n) ahead
