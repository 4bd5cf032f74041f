use Rattle.std.proofs.Common.{◌≡◌, ◌+◌, drop}
use Rattle.record_match.specs.Delays.{row_at}
use Rattle.record_match.proofs.tables.delays.row_at.Given as goal

-- the row is further on
abbrev pub invariant-loop-row : goal.invariant-loop-row
invariant-loop-row l = row_at l.rank l.rows ≡ row_at l.left (drop l.row l.rows) + l.row
