use Rattle.std.proofs.Common.{◌≡◌, ◌∙◌, ap, sym, length, arith}
use Rattle.wire.specs.Sum.{folded}
use Rattle.wire.specs.OuterTemplate.{Fixed, ip4_part}
use Rattle.wire.proofs.OuterSumLemmas.{check-ip4}
use Rattle.wire.proofs.TemplateLemmas.{length-part}
use Rattle.wire.proofs.outer.template4.Template4.ip_sum.Goals as goal

pub returns : goal.returns
returns c =
    let t : Fixed = c.args.self.now in
    let four : length t.src ≡ 4 = ap (λ (x : Fixed). length x.src) (sym c.self.view_is) ∙ length-part 26 4 c.self.inside.octets (omega arith) in
    let ip : c.self.inside.ip ≡ ip4_part t = c.self.invariant.1 ∙ ap ip4_part c.self.view_is in
    check-ip4 t c.args.dst c.args.len c.fold.result four (omega arith) (c.fold.ensures ∙ ap folded (omega (arith, ip, c.words.ensures.sum, c.from.ensures)))
