use Rattle.std.proofs.Common.{◌≡◌, ◌+◌, map, drop}
use Rattle.text_advice.specs.Search.{block_of, unknown_table_at, unknown_table}
use Rattle.text_advice.proofs.search.unknown_table.Given as goal

abbrev pub invariant-loop-i : goal.invariant-loop-i
invariant-loop-i l = unknown_table_at (map (λ k. k.now) l.keys) l.around (l.block.header.number + l.i) (map (λ x. x.now) (drop l.i l.block.lines.now)) ≡ unknown_table (map (λ k. k.now) l.keys) (block_of l.block)
