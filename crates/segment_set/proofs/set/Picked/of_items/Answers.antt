use Rattle.std.proofs.Common.{rules, Ok, Err, sym, ◌∙◌}
use Rattle.segment_set.specs.Segments.{Only}
use Rattle.segment_set.proofs.Splitting.{one_item, last_item}
use Rattle.segment_set.proofs.set.Picked.of_items.Goals as goal

pub returns-in-Err : goal.returns-in-Err
returns-in-Err c =
    sym (one_item (Only c.loop-text.picked.vids c.loop-text.picked.none) c.loop-text.rest.now (c.in-Some.text.now, c.in-Some.behind.now) (Err c.in-Err.fault) (sym c.in-Some.ensures.value) c.in-Err.ensures) ∙ c.loop-text.invariant.same

pub loop-text-preserved : goal.loop-text-preserved
loop-text-preserved c = record {
  text = search rules;
  same = sym (one_item (Only c.loop-text.picked.vids c.loop-text.picked.none) c.loop-text.rest.now (c.in-Some.text.now, c.in-Some.behind.now) (Ok (Only c.add_text.new.self.vids c.add_text.new.self.none)) (sym c.in-Some.ensures.value) c.in_default-add_text.ensures)
      ∙ c.loop-text.invariant.same;
}

pub returns-in-Err-add_text : goal.returns-in-Err-add_text
returns-in-Err-add_text c =
    sym c.in-Err-add_text.ensures ∙ sym (last_item (Only c.loop-text.picked.vids c.loop-text.picked.none) c.loop-text.rest.now (sym c.in_default.ensures.value)) ∙ c.loop-text.invariant.same

pub returns-in-Ok : goal.returns-in-Ok
returns-in-Ok c =
    sym c.in-Ok.ensures ∙ sym (last_item (Only c.loop-text.picked.vids c.loop-text.picked.none) c.loop-text.rest.now (sym c.in_default.ensures.value)) ∙ c.loop-text.invariant.same
