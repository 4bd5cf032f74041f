use Rattle.std.proofs.Common.{◌+◌, arith, rules}
use Rattle.std.proofs.lemmas.List.Elements.{All-push}
use Rattle.timeline.specs.declared.source.Tap.TheVariants.{Port}
use Rattle.part_record.proofs.Turns.{read_more}
use Rattle.part_record.specs.Record.{capture_line}
use Rattle.part_record.specs.Sum.{IsSum}
use Rattle.part_record.proofs.steps.ports_of.Goals as goal

pub loop-sums-preserved : goal.loop-sums-preserved
loop-sums-preserved c =
    let before = c.loop-sums.invariant in
    record {
      few = search rules;
      sums = rw c.push.ensures.items (All-push IsSum c.loop-sums.sums.items c.in-Some.found.0 before.sums c.in-Some.ensures.0);
      read = rw c.push.ensures.items
          (read_more (λ number sum. capture_line (Port number) sum) 1 c.args.text.now c.loop-sums.sums.items c.loop-sums.rest.now c.in-Some.found.0 c.in-Some.found.1.now (c.len.result + 1) (omega (arith, c.len.ensures.value)) before.read c.in-Some.ensures.1);
      text = search rules;
    }
