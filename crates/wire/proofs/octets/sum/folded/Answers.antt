use Rattle.std.proofs.Common.{◌≡◌, ◌∙◌, ◌+◌, ◌*◌, ap, drop, arith, length-drop}
use Rattle.std.specs.Int.{from_bool}
use Rattle.std.proofs.lemmas.List.{take_rest}
use Rattle.wire.specs.Sum.{total, folded}
use Rattle.wire.proofs.FoldLemmas.{folded-step, folded-ended, carry_small}
use Rattle.wire.proofs.octets.sum.folded.Goals as goal

pub loop-rest-preserved : goal.loop-rest-preserved
loop-rest-preserved c =
    let rest = c.loop-rest.rest.now in
    let sum = c.loop-rest.sum in
    let carries = c.loop-rest.carries in
    let carry = from_bool c.add_block-next.result.1 in
    let behind = total (drop 64 rest) in
    let step = folded-step sum carries c.add_block-next.result.0 carry (total rest) behind c.add_block-next.ensures in
    record {
      summed = rw (take_rest, c.from-carries.ensures) (step ∙ c.loop-rest.invariant.summed);
      room = rw take_rest (omega (arith, length-drop 64 rest, c.from-carries.ensures, carry_small c.add_block-next.result.1, c.loop-rest.invariant.room, c.loop-rest-test.true));
    }

pub loop-rest-2-preserved : goal.loop-rest-2-preserved
loop-rest-2-preserved c =
    let rest = c.loop-rest-2.rest.now in
    let sum = c.loop-rest-2.sum in
    let carries = c.loop-rest-2.carries in
    let carry = from_bool c.add_word-next.result.1 in
    let behind = total (drop 8 rest) in
    let same : 256 * (sum + 0) + total rest ≡ 256 * sum + total rest = omega arith in
    let step = folded-step sum carries c.add_word-next.result.0 carry (total rest) behind (c.add_word-next.ensures ∙ ap folded same) in
    record {
      summed = rw (take_rest, c.from-carries-in-loop-rest-2.ensures) (step ∙ c.loop-rest-2.invariant.summed);
      room = rw take_rest (omega (arith, length-drop 8 rest, c.from-carries-in-loop-rest-2.ensures, carry_small c.add_word-next.result.1, c.loop-rest-2.invariant.room, c.loop-rest-2-test.true));
    }

pub returns : goal.returns
returns c =
    let rest = c.loop-rest-2.rest.now in
    let sum = c.loop-rest-2.sum in
    let carries = c.loop-rest-2.carries in
    let whole : c.from.result * 256 + c.words.result ≡ 256 * folded (c.narrowed.result + carries) + total rest = omega (arith, c.from.ensures, c.fold.ensures, c.words.ensures.sum) in
    c.fold-2.ensures ∙ ap folded whole
    ∙ folded-ended c.narrowed.result sum carries (total rest) c.narrowed.ensures.value
    ∙ c.loop-rest-2.invariant.summed
