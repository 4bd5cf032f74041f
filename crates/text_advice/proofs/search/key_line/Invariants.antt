use Rattle.std.proofs.Common.{◌≡◌, ◌+◌, map, drop}
use Rattle.text_advice.specs.Search.{block_of, key_at, key_line}
use Rattle.text_advice.proofs.search.key_line.Given as goal

abbrev pub invariant-loop-i : goal.invariant-loop-i
invariant-loop-i l = key_at l.key (l.block.header.number + l.i) (map (λ x. x.now) (drop l.i l.block.lines.now)) ≡ key_line l.key (block_of l.block)
