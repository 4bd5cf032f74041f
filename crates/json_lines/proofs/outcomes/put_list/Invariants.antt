use Rattle.std.proofs.Common.{◌≡◌, ◌++◌, true, length, take}
use Rattle.std.specs.List.{list_all}
use Rattle.json_lines.specs.Outcomes.{is_outcome, words}
use Rattle.json_lines.specs.Puts.{listed}
use Rattle.json_lines.proofs.outcomes.put_list.Given as goal

abbrev pub invariant-loop-word : goal.invariant-loop-word
invariant-loop-word l = record {
  same : l.out.items ++ listed l.mark (words l.rest) ≡ l.initial.out.items ++ listed 91 (words l.text);
  kept : take (length l.initial.out.items) l.out.items ≡ l.initial.out.items;
  sound : list_all is_outcome (words l.rest) ≡ true;
}

abbrev pub decreases-loop-word : goal.decreases-loop-word
decreases-loop-word l = length l.rest
