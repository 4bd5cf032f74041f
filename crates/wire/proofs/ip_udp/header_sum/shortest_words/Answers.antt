use Rattle.std.proofs.Common.{◌≡◌, ◌∙◌, ◌+◌, ap, arith}
use Rattle.wire.specs.Sum.{total, folded}
use Rattle.wire.proofs.FoldLemmas.{folded-behind}
use Rattle.wire.proofs.ip_udp.header_sum.shortest_words.Goals as goal

pub returns-clause-sum : goal.returns-clause-sum
returns-clause-sum c =
    let t = c.args.header.now in
    let none : 0 + total t ≡ total t = omega arith in
    folded-behind 4 16 _ _ t c.add_word.ensures.sum
    ∙ folded-behind 4 12 _ _ t c.add_word-fourth.ensures.sum
    ∙ folded-behind 4 8 _ _ t c.add_word-third.ensures.sum
    ∙ folded-behind 4 4 _ _ t c.add_word-second.ensures.sum
    ∙ c.add_word-first.ensures.sum
    ∙ ap folded none
