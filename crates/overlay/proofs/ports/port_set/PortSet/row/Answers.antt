use Rattle.std.proofs.Common.{◌<◌, arith}
use Rattle.overlay.proofs.PortsLemmas.{read-row}
use Rattle.overlay.proofs.ports.port_set.PortSet.row.Goals as goal

pub returns-clause-value : goal.returns-clause-value
returns-clause-value c =
    let small : c.args.vid < 4096 = omega arith in
    read-row c.self.inside.ports.items c.self.inside.words.items c.args.self.now c.args.vid c.self.view_is small
    c.as_slice.result.now c.as_slice-2.result.now c.as_slice.ensures.value c.as_slice-2.ensures.value
