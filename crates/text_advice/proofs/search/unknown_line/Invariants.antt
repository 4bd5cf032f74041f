use Rattle.std.proofs.Common.{◌≡◌, ◌+◌, map, drop}
use Rattle.text_advice.specs.Search.{block_of, unknown_at, unknown_line}
use Rattle.text_advice.proofs.search.unknown_line.Given as goal

abbrev pub invariant-loop-i : goal.invariant-loop-i
invariant-loop-i l = unknown_at (map (λ k. k.now) l.keys) (l.block.header.number + l.i) (map (λ x. x.now) (drop l.i l.block.lines.now)) ≡ unknown_line (map (λ k. k.now) l.keys) (block_of l.block)
