use denote.Shadow.{shadow}
use denote.Text.{Utf8}
use Rattle.std.proofs.Common.{◌≡◌, ◌≤◌, ◌-◌, ◌++◌, All, length}
use Rattle.part_record.specs.Outputs.{IsOutput, output_lines}
use Rattle.part_record.proofs.outputs.outputs_of.Given as goal

abbrev pub invariant-loop-place : goal.invariant-loop-place
invariant-loop-place l = record {
  place : l.place ≡ length l.outputs.items;
  few : length l.outputs.items ≤ l.most;
  outputs : All IsOutput l.outputs.items;
  read : l.text ≡ output_lines 0 l.outputs.items ++ l.rest;
  text : shadow (Utf8 l.rest);
}

abbrev pub decreases-loop-place : goal.decreases-loop-place
decreases-loop-place l = l.most - length l.outputs.items
