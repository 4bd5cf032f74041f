use Rattle.std.proofs.Common.{◌≡◌, ◌++◌, All, length}
use Rattle.std.specs.List.{flat_map}
use Rattle.run_counts.specs.Tables.{IsRow, row_text}
use Rattle.run_counts.proofs.parts.table_rows.rows_in.Given as goal

-- the text is the rows so far, and what is left of it
abbrev pub invariant-loop-rest : goal.invariant-loop-rest
invariant-loop-rest l = record {
  text : l.text ≡ flat_map row_text l.rows.items ++ l.rest;
  rows : All (IsRow l.segments) l.rows.items;
}

abbrev pub decreases-loop-rest : goal.decreases-loop-rest
decreases-loop-rest l = length l.rest
