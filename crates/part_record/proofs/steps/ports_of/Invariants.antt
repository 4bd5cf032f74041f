use denote.Shadow.{shadow}
use denote.Text.{Utf8}
use Rattle.std.proofs.Common.{◌≡◌, ◌≤◌, ◌-◌, ◌++◌, All, length}
use Rattle.part_record.specs.Record.{port_lines}
use Rattle.part_record.specs.Sum.{IsSum}
use Rattle.part_record.proofs.steps.ports_of.Given as goal

abbrev pub invariant-loop-sums : goal.invariant-loop-sums
invariant-loop-sums l = record {
  few : length l.sums.items ≤ 255;
  sums : All IsSum l.sums.items;
  read : l.text ≡ port_lines 1 l.sums.items ++ l.rest;
  text : shadow (Utf8 l.rest);
}

abbrev pub decreases-loop-sums : goal.decreases-loop-sums
decreases-loop-sums l = 255 - length l.sums.items
