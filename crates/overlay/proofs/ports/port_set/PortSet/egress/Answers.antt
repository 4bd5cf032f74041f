use Rattle.std.proofs.Common.{◌<◌, ◌∙◌, sym, ap, arith}
use Rattle.overlay.specs.Bits.{egress_in}
use Rattle.overlay.proofs.PortsLemmas.{read-egress, no_egress}
use Rattle.overlay.proofs.ports.port_set.PortSet.egress.Goals as goal

pub returns-then-not-has : goal.returns-then-not-has
returns-then-not-has c = no_egress c.args.self.now c.args.vid c.args.port (sym c.has.ensures ∙ c.if-not-has.true)

pub returns : goal.returns
returns c =
    let small : c.args.vid < 4096 = omega arith in
    c.egress.ensures ∙ ap (λ words. egress_in words c.args.vid c.args.port) c.as_slice.ensures.value
    ∙ read-egress c.self.inside.ports.items c.self.inside.words.items c.args.self.now c.args.vid c.self.view_is small c.args.port c.requires.low c.requires.high
    (sym c.has.ensures ∙ c.if-not-has.false)
