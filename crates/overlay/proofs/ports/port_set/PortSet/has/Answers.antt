use Rattle.std.proofs.Common.{◌<◌, ◌∙◌, ap, arith}
use Rattle.overlay.specs.Bits.{stands_in}
use Rattle.overlay.proofs.PortsLemmas.{read-has}
use Rattle.overlay.proofs.ports.port_set.PortSet.has.Goals as goal

pub returns : goal.returns
returns c =
    let small : c.args.vid < 4096 = omega arith in
    c.stands.ensures ∙ ap (λ words. stands_in words c.args.vid) c.as_slice.ensures.value
    ∙ read-has c.self.inside.ports.items c.self.inside.words.items c.args.self.now c.args.vid c.self.view_is small
