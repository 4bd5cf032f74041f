use Rattle.std.proofs.Common.{◌≡◌, ◌≤◌, vec_capacity}
use Rattle.report_counts.specs.Tables.{zero_rows}
use Rattle.report_counts.proofs.table.Table.new.Given as goal

abbrev pub invariant-loop-row : goal.invariant-loop-row
invariant-loop-row g l = record {
  rows : l.rows.items ≡ zero_rows g.row.N l._row;
  room : l.size ≤ vec_capacity l.rows;
}
