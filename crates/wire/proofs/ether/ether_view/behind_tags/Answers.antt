use Rattle.std.proofs.Common.{arith, ◌-◌, ◌∙◌, length, sym, ap}
use Rattle.std.proofs.lemmas.List.{take_rest, length-drop}
use Rattle.wire.specs.Tag.{without_tags}
use Rattle.wire.proofs.TagLemmas.{without_tags-more}
use Rattle.wire.proofs.ether.ether_view.behind_tags.Goals as goal

pub loop-left-preserved : goal.loop-left-preserved
loop-left-preserved c =
    let rest = c.loop-left.rest.now in
    let left = c.loop-left.left in
    let more = without_tags-more left rest c.loop-left-test.true (sym c.if-has_outer_tag.ensures.value) in
    record {
      same = ap (without_tags (left - 1)) (take_rest rest 4) ∙ sym more ∙ c.loop-left.invariant.same;
      shorter = omega (arith, c.loop-left.invariant.shorter, ap length (take_rest rest 4), length-drop 4 rest);
    }
