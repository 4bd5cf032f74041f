use Rattle.std.proofs.Common.{◌≡◌, ◌++◌, take}
use Rattle.part_record.specs.Digests.{digest_lines}
use Rattle.part_record.proofs.digest_lines.put_port_digests.Given as goal

abbrev pub invariant-loop-index : goal.invariant-loop-index
invariant-loop-index l = l.text.items ≡ l.initial.text.items ++ digest_lines 1 (take l.index l.digests)
