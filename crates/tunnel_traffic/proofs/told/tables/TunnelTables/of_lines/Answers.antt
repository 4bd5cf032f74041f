use Rattle.std.proofs.Common.{ap}
use Rattle.tunnel_traffic.specs.Tables.{Tunnels}
use Rattle.tunnel_traffic.specs.Rows.{rows_of, told_by}
use Rattle.tunnel_traffic.proofs.told.tables.TunnelTables.of_lines.Goals as goal

pub loop-line-init : goal.loop-line-init
loop-line-init c = ap (λ (t : Tunnels). told_by t (rows_of c.args.text.now)) c.in_ok-tables.ensures
