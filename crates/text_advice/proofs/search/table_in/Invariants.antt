use Rattle.std.proofs.Common.{◌≡◌, ◌+◌, ◌≤◌, map, drop}
use Rattle.text_advice.specs.Search.{block_of, table_at, table_in}
use Rattle.text_advice.proofs.search.table_in.Given as goal

abbrev pub invariant-loop-i : goal.invariant-loop-i
invariant-loop-i l = record {
  count : l.count ≤ l.i;
  rest : table_at l.around l.name l.digits l.count (l.block.header.number + l.i) (map (λ x. x.now) (drop l.i l.block.lines.now)) ≡ table_in l.around l.name l.digits (block_of l.block);
}
