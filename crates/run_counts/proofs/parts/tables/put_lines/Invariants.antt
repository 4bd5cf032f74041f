use Rattle.std.proofs.Common.{◌≡◌, ◌++◌, take}
use Rattle.run_counts.specs.Tables.{lines_of}
use Rattle.run_counts.proofs.parts.tables.put_lines.Given as goal

-- the lines of the rows so far
abbrev pub invariant-loop-row : goal.invariant-loop-row
invariant-loop-row l = l.text.items ≡ l.fn.text.items ++ lines_of (take l.row-index l.rows) l.vid
