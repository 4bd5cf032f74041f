use Rattle.std.proofs.Common.{arith, rules}
use Rattle.std.proofs.lemmas.List.Elements.{All-push}
use Rattle.part_record.proofs.Turns.{read_more}
use Rattle.part_record.specs.Outputs.{IsOutput, output_line}
use Rattle.part_record.proofs.outputs.outputs_of.Goals as goal

pub loop-place-preserved : goal.loop-place-preserved
loop-place-preserved c =
    let before = c.loop-place.invariant in
    record {
      place = omega (arith, c.push.ensures.len);
      few = search rules;
      outputs = rw c.push.ensures.items (All-push IsOutput c.loop-place.outputs.items c.in-Some.found.0 before.outputs c.in-Some.ensures.0);
      read = rw c.push.ensures.items
          (read_more output_line 0 c.args.text.now c.loop-place.outputs.items c.loop-place.rest.now c.in-Some.found.0 c.in-Some.found.1.now c.loop-place.place (omega (arith, before.place)) before.read c.in-Some.ensures.1);
      text = search rules;
    }
