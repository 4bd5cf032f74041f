use Rattle.std.proofs.Common.{◌≡◌, take}
use Rattle.ranked_rows.specs.Rows.{counted_all, rows_by}
use Rattle.ranked_rows.proofs.rows.RankedRows.add_rows.Given as goal

-- with the rows of the numbers so far
abbrev pub invariant-loop-number : goal.invariant-loop-number
invariant-loop-number g l = l.self ≡ counted_all g.K.Ranked.rank g.C.Counts.joined g.C.Counts.none l.fn.self (rows_by l.rows (take l.number-index l.order))
