use Rattle.std.proofs.Common.{◌≡◌, ◌++◌, take}
use Rattle.part_record.specs.Outputs.{output_lines}
use Rattle.part_record.proofs.outputs.put_outputs.Given as goal

abbrev pub invariant-loop-place : goal.invariant-loop-place
invariant-loop-place l = record {
  put : l.text.items ≡ l.initial.text.items ++ output_lines 0 (take l.place l.outputs);
}
