use Rattle.std.proofs.Common.{◌≡◌, ◌++◌, take}
use Rattle.std.specs.List.{flat_map}
use Rattle.std.specs.String.{string_bytes}
use Rattle.table_lines.specs.Lines.{entry_line}
use Rattle.table_lines.proofs.tables.put_rows.Given as goal

-- the lines of the rows so far
abbrev pub invariant-loop-mac : goal.invariant-loop-mac
invariant-loop-mac l = string_bytes l.text ≡ string_bytes l.fn.text ++ flat_map (entry_line l.two_tunnels l.now l.vid) (take l.mac-index l.rows)
