use Rattle.std.proofs.Common.{◌<◌, ◌∙◌, false, eqb, cond, ap, arith, rules}
use Rattle.std.proofs.lemmas.List.{with_items_is, places}
use Rattle.overlay.specs.Bits.{egress_in, stands_in}
use Rattle.overlay.proofs.PortsLemmas.{shown, shown-removed}
use Rattle.overlay.proofs.ports.port_set.PortSet.remove_vid.Goals as goal

pub returns : goal.returns
returns c =
    let small : c.args.vid < 4096 = omega arith in
    ap (shown c.self.inside.ports.items) (with_items_is c.self.inside.words c.remove.new.words (search (rules, places)))
    ∙ shown-removed c.self.inside.ports.items c.self.inside.words.items c.args.self.now c.args.vid c.self.view_is small
    c.remove.new.words
    (λ v p less low. c.remove.ensures.egress v p less low ∙ ap (λ words. egress_in words v p) c.as_mut_slice.ensures.value)
    (λ v less. c.remove.ensures.stands v less ∙ ap (λ words. cond (eqb v c.args.vid) false (stands_in words v)) c.as_mut_slice.ensures.value)
