use Rattle.std.proofs.Common.{arith, length-drop, ◌∙◌}
use Rattle.std.proofs.lemmas.List.{take_rest}
use Rattle.wire.proofs.IpSumLemmas.{some-ones, none-ones, total-none}
use Rattle.wire.proofs.ip_udp.header_sum.is_sum_right.Goals as goal

pub loop-rest-preserved : goal.loop-rest-preserved
loop-rest-preserved c = record {
  summed = rw take_rest (c.add_word-sum.ensures.sum ∙ c.loop-rest.invariant.summed);
  room = rw take_rest (omega (arith, length-drop 4 c.loop-rest.rest.now, c.add_word-sum.ensures.small, c.loop-rest.invariant.room));
  whole = rw take_rest (omega (arith, length-drop 4 c.loop-rest.rest.now, c.loop-rest.invariant.whole));
}

pub returns-then-sum-ne0 : goal.returns-then-sum-ne0
returns-then-sum-ne0 c =
    some-ones c.loop-rest.sum _ _ (omega (arith, c.if-sum-ne0.true)) (total-none c.loop-rest.rest.now c.loop-rest-test.false c.loop-rest.invariant.whole) c.loop-rest.invariant.summed

pub returns-else-sum-ne0 : goal.returns-else-sum-ne0
returns-else-sum-ne0 c =
    none-ones c.loop-rest.sum _ _ (omega (arith, c.if-sum-ne0.false)) (total-none c.loop-rest.rest.now c.loop-rest-test.false c.loop-rest.invariant.whole) c.loop-rest.invariant.summed
