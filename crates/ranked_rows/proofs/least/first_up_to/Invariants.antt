use Rattle.std.proofs.Common.{◌≡◌, take}
use Rattle.ranked_rows.specs.Frequent.{up_to}
use Rattle.ranked_rows.specs.Rows.{rows_by}
use Rattle.ranked_rows.proofs.least.first_up_to.Given as goal

-- none of the rows so far counts no more
abbrev pub invariant-loop-place : goal.invariant-loop-place
invariant-loop-place g l = l.from ≡ 0 → up_to g.C.Frequency.times l.limit (rows_by l.rows (take l.place l.order)) ≡ 0
