use Rattle.std.proofs.Common.{◌≡◌, ◌∙◌, ◌+◌, ◌%◌, ◌++◌, length, ap, arith}
use Rattle.std.proofs.lemmas.List.{length-append}
use Rattle.wire.specs.Sum.{total, folded}
use Rattle.wire.proofs.SumLemmas.{total-append_even}
use Rattle.wire.proofs.FoldLemmas.{folded-added}
use Rattle.wire.proofs.octets.datagram.parts_sum.Goals as goal

pub returns : goal.returns
returns c =
    let first = c.args.first.now in
    let second = c.args.second.now in
    let third = c.args.third.now in
    let front = c.args.front + total first + total second in
    let even : length (first ++ second) % 2 ≡ 0 = omega (arith, length-append first second, c.requires.first_even, c.requires.second_even) in
    let whole : front + total third ≡ c.args.front + total (first ++ second ++ third) =
    omega (arith, total-append_even first second c.requires.first_even, total-append_even (first ++ second) third even) in
    let same = folded-added front (total third) ∙ ap folded whole in
    rw (c.words.ensures.sum, c.words-2.ensures.sum, c.from.ensures, c.folded.ensures) same
