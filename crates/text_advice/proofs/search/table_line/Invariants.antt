use Rattle.std.proofs.Common.{◌≡◌, ◌+◌, map, drop}
use Rattle.text_advice.specs.Search.{block_of, table_line_at, table_line}
use Rattle.text_advice.proofs.search.table_line.Given as goal

abbrev pub invariant-loop-i : goal.invariant-loop-i
invariant-loop-i l = table_line_at l.key l.around (l.block.header.number + l.i) (map (λ x. x.now) (drop l.i l.block.lines.now)) ≡ table_line l.key (block_of l.block)
