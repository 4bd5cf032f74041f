use Rattle.std.proofs.Common.{◌<◌, ◌∙◌, ◌||◌, None, eqb, cond, ap, arith, rules}
use Rattle.std.proofs.lemmas.List.{with_items_is, places}
use Rattle.overlay.specs.Bits.{egress_in, stands_in}
use Rattle.overlay.proofs.PortsLemmas.{shown, shown-added}
use Rattle.overlay.proofs.ports.port_set.PortSet.add_vid.Goals as goal

pub returns : goal.returns
returns c =
    let small : c.args.vid < 4096 = omega arith in
    ap (shown c.self.inside.ports.items) (with_items_is c.self.inside.words c.add.new.words (search (rules, places)))
    ∙ shown-added c.self.inside.ports.items c.self.inside.words.items c.args.self.now c.args.vid c.self.view_is small
    c.add.new.words
    (λ v p less low high. c.add.ensures.egress v p less low (omega (arith, high, c.len-ports.ensures, c.self.inside.ports.ok.0))
    ∙ ap (λ words. cond (eqb v c.args.vid) None (egress_in words v p)) c.as_mut_slice.ensures.value)
    (λ v less. c.add.ensures.stands v less ∙ ap (λ words. eqb v c.args.vid || stands_in words v) c.as_mut_slice.ensures.value)
