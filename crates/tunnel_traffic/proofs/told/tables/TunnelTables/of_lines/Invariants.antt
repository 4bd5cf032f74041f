use Rattle.std.proofs.Common.{◌≡◌, length}
use Rattle.tunnel_traffic.specs.Tables.{no_tunnels}
use Rattle.tunnel_traffic.specs.Rows.{rows_of, told_by}
use Rattle.tunnel_traffic.proofs.told.tables.TunnelTables.of_lines.Given as goal

-- with the lines that are left it is told what all lines tell
abbrev pub invariant-loop-line : goal.invariant-loop-line
invariant-loop-line l = told_by l.tables (rows_of l.rest) ≡ told_by no_tunnels (rows_of l.text)

abbrev pub decreases-loop-line : goal.decreases-loop-line
decreases-loop-line l = length l.rest
