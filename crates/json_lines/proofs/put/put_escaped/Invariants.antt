use Rattle.std.proofs.Common.{◌≡◌, ◌++◌, length, take}
use Rattle.json.specs.Print.{escape}
use Rattle.json_lines.proofs.put.put_escaped.Given as goal

abbrev pub invariant-loop-rest : goal.invariant-loop-rest
invariant-loop-rest l = record {
  same : l.out.items ++ escape l.rest ≡ l.initial.out.items ++ escape l.text;
  kept : take (length l.initial.out.items) l.out.items ≡ l.initial.out.items;
}

abbrev pub decreases-loop-rest : goal.decreases-loop-rest
decreases-loop-rest l = length l.rest
