-- What traffic comes to in tables.
use Rattle.std.proofs.Common.{◌≡◌, List, []}
use Rattle.ranked_rows.proofs.Shown as ranked
use Rattle.ranked_rows.proofs.Shown.{AreSums}
use Rattle.tunnel_traffic.specs.Key.{rank}
use Rattle.tunnel_traffic.specs.Sums.{nothing_is, with_grouped, with_turned, with_whole}
use Rattle.tunnel_traffic.specs.Traffic.{no_traffic, traffic_with}
use Rattle.tunnel_traffic.specs.TrafficRows.{TrafficRow, all_traffic, counted_all, no_rows, shown}

pub sums : AreSums traffic_with no_traffic
sums = record { grouped = with_grouped; turned = with_turned; whole = with_whole; nothing = nothing_is }

pub all_shown : (rows : List TrafficRow) → counted_all no_rows rows ≡ shown 4096 (all_traffic [] rows)
all_shown rows = ranked.all_shown rank traffic_with no_traffic sums rows
