use Rattle.std.proofs.Common.{◌∙◌, ◌++◌, arith, append_assoc}
use Rattle.part_record.proofs.RecordText.{IsRead, all_is, front_is, outputs_are, whole_is}
use Rattle.part_record.specs.Outputs.{output_lines}
use Rattle.part_record.specs.Record.{facts_of, facts_text}
use Rattle.part_record.proofs.read.made_of.Goals.{After-outputs_of-outputs}
use Rattle.part_record.proofs.read.made_of.Goals as goal

pub returns-in-Err-clause-none : goal.returns-in-Err-clause-none
returns-in-Err-clause-none c f outputs rest is some e =
    c.in-Err.ensures.none f (output_lines 0 outputs ++ rest) is (e ∙ append_assoc (facts_text f) (output_lines 0 outputs) rest)

-- what was read
read_of : (c : After-outputs_of-outputs)
    → IsRead c.args.text.now (facts_of c.in-Ok.read.0) c.in-Ok.read.1.now c.outputs_of-outputs.result.0.items c.outputs_of-outputs.result.1.now
read_of c = record {
  is = c.in-Ok.ensures.read.0;
  facts = c.in-Ok.ensures.read.1;
  each = c.outputs_of-outputs.ensures.outputs;
  read = c.outputs_of-outputs.ensures.read;
  few = omega (arith, c.len-count.ensures.value, c.outputs_of-outputs.ensures.few);
  no_more = λ o behind is less. c.outputs_of-outputs.ensures.all o behind is (omega (arith, c.len-count.ensures.value, less));
}

pub returns-then-len-count-clause-none : goal.returns-then-len-count-clause-none
returns-then-len-count-clause-none c f outputs rest is some e =
    let read = read_of (goal.at.returns-then-len-count-clause-none c).After-outputs_of-outputs in
    let all = outputs_are read f outputs rest is some e in
    omega arith

pub returns-then-len-count-clause-fault : goal.returns-then-len-count-clause-fault
returns-then-len-count-clause-fault c =
    let read = read_of (goal.at.returns-then-len-count-clause-fault c).After-outputs_of-outputs in (
      facts_of c.in-Ok.read.0,
      c.outputs_of-outputs.result.0.items,
      c.outputs_of-outputs.result.1.now,
      read.is,
      read.each,
      omega arith,
      front_is read,
      λ o behind is. read.no_more o behind is (omega arith),
    )

pub returns-clause-read : goal.returns-clause-read
returns-clause-read c =
    let read = read_of (goal.at.returns-clause-read c).After-outputs_of-outputs in
    (read.is, all_is read (omega arith), whole_is read)
