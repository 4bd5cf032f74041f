use Rattle.std.proofs.Common.{◌∙◌}
use Rattle.wire.proofs.FoldLemmas.{folded-behind}
use Rattle.wire.proofs.octets.sum.add_half.Goals as goal

pub returns : goal.returns
returns c =
    let t = c.args.text.now in
    folded-behind 8 24 _ _ t c.add_word.ensures
    ∙ folded-behind 8 16 _ _ t c.add_word-third.ensures
    ∙ folded-behind 8 8 _ _ t c.add_word-second.ensures
    ∙ c.add_word-first.ensures
