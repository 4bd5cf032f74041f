use Rattle.std.proofs.Common.{◌≡◌, ◌≤◌, ◌+◌, ◌*◌, ◌++◌, length, drop}
use Rattle.std.specs.List.{flat_map}
use Rattle.explanation.specs.Text.{head_line}
use Rattle.explanation.proofs.text.put_heads.Given as goal

-- with what is left put too, it is all
abbrev pub invariant-loop-head : goal.invariant-loop-head
invariant-loop-head l = record {
  text : l.lines ++ flat_map (head_line l.values) (drop l.head-index l.heads) ≡ l.fn.lines ++ flat_map (head_line l.values) l.heads;
  room : length l.lines ≤ length l.fn.lines + 200 * l.head-index;
}
