use Rattle.std.proofs.Common.{◌<◌, ◌∙◌, ◌&&◌, eqb, cond, ap, arith, rules}
use Rattle.std.proofs.lemmas.List.{with_items_is, places}
use Rattle.overlay.specs.Bits.{egress_in, stands_in}
use Rattle.overlay.proofs.PortsLemmas.{shown, shown-put}
use Rattle.overlay.proofs.ports.port_set.PortSet.set_member.Goals as goal

pub returns : goal.returns
returns c =
    let small : c.args.vid < 4096 = omega arith in
    ap (shown c.self.inside.ports.items) (with_items_is c.self.inside.words c.set_egress.new.words (search (rules, places)))
    ∙ shown-put c.self.inside.ports.items c.self.inside.words.items c.args.self.now c.args.vid c.self.view_is small
    c.set_egress.new.words c.args.port c.args.egress c.requires.low c.requires.high c.requires.there
    (λ v p less. c.set_egress.ensures.egress v p less
    ∙ ap (λ words. cond (eqb v c.args.vid && eqb p c.args.port) c.args.egress (egress_in words v p)) c.as_mut_slice.ensures.value)
    (λ v less. c.set_egress.ensures.stands v less ∙ ap (λ words. stands_in words v) c.as_mut_slice.ensures.value)
