use Rattle.std.proofs.Common.{◌≡◌, ◌≤◌, take}
use Rattle.ranked_rows.specs.Frequent.{up_to}
use Rattle.ranked_rows.specs.Rows.{rows_by}
use Rattle.ranked_rows.proofs.least.count_up_to.Given as goal

-- of the rows of the numbers so far
abbrev pub invariant-loop-number : goal.invariant-loop-number
invariant-loop-number g l = record {
  few : l.count ≤ l.number-index;
  is : l.count ≡ up_to g.C.Frequency.times l.limit (rows_by l.rows (take l.number-index l.order));
}
