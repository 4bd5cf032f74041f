use Rattle.std.proofs.Common.{◌≡◌, ◌∙◌, ◌+◌, ◌*◌, ap, arith}
use Rattle.wire.specs.Sum.{total, folded}
use Rattle.wire.proofs.FoldLemmas.{folded-behind}
use Rattle.wire.proofs.octets.sum.add_block.Goals as goal

pub returns : goal.returns
returns c =
    let t = c.args.text.now in
    let none : 256 * (c.args.sum + 0) + total t ≡ 256 * c.args.sum + total t = omega arith in
    folded-behind 32 32 _ _ t c.add_half.ensures ∙ c.add_half-half.ensures ∙ ap folded none
