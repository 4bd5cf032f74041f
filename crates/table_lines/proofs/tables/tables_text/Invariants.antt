use Rattle.std.proofs.Common.{◌≡◌, ◌-◌}
use Rattle.std.specs.List.{flat_map, range_with_len}
use Rattle.std.specs.String.{string_bytes}
use Rattle.endpoint_core.specs.Kept.{state_of}
use Rattle.table_lines.specs.Lines.{lines_among, shown_at}
use Rattle.table_lines.proofs.tables.tables_text.Given as goal

-- the lines of the segments so far
abbrev pub invariant-loop-number : goal.invariant-loop-number
invariant-loop-number l = string_bytes l.text ≡ flat_map (lines_among l.segments (shown_at l.at (state_of l.endpoint))) (range_with_len 1 (l.number - 1))
