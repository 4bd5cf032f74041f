use Rattle.std.proofs.Common.{◌≡◌, take}
use Rattle.ranked_rows.specs.Rows.{rows_by}
use Rattle.ranked_rows.proofs.numbers.rows_in_order.Given as goal

-- the rows of the numbers so far
abbrev pub invariant-loop-number : goal.invariant-loop-number
invariant-loop-number g l = l.sorted.items ≡ rows_by l.rows (take l.number-index l.order)
