use Rattle.std.proofs.Common.{◌≡◌, ◌++◌, length, take}
use Rattle.json_lines.specs.Outcomes.{words}
use Rattle.json_lines.specs.Objects.{members_by}
use Rattle.json_lines.specs.Puts.{marked}
use Rattle.json_lines.proofs.members.put_members.Given as goal

abbrev pub invariant-loop-rest : goal.invariant-loop-rest
invariant-loop-rest l = record {
  same : l.out.items ++ marked l.mark (members_by l.form (words l.line) l.rest) ≡ l.initial.out.items ++ marked 123 (members_by l.form (words l.line) l.initial.rest);
  kept : take (length l.initial.out.items) l.out.items ≡ l.initial.out.items;
}

abbrev pub decreases-loop-rest : goal.decreases-loop-rest
decreases-loop-rest l = length l.rest
