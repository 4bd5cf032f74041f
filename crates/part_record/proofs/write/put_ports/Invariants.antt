use Rattle.std.proofs.Common.{◌≡◌, ◌++◌, take}
use Rattle.part_record.specs.Record.{port_lines}
use Rattle.part_record.proofs.write.put_ports.Given as goal

abbrev pub invariant-loop-index : goal.invariant-loop-index
invariant-loop-index l = l.text.items ≡ l.initial.text.items ++ port_lines 1 (take l.index l.sums)
