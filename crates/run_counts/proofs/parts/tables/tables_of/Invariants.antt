use Rattle.std.proofs.Common.{◌≡◌, ◌-◌}
use Rattle.std.specs.List.{flat_map, range_with_len}
use Rattle.run_counts.specs.Tables.{lines_of}
use Rattle.run_counts.proofs.parts.tables.tables_of.Given as goal

-- the lines of the segments so far
abbrev pub invariant-loop-vid : goal.invariant-loop-vid
invariant-loop-vid l = l.text.items ≡ flat_map (lines_of l.rows) (range_with_len 1 (l.vid - 1))
