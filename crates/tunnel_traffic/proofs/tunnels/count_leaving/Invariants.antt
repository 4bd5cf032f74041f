use Rattle.std.proofs.Common.{◌≡◌, map, take}
use Rattle.std.specs.List.{flat_map}
use Rattle.endpoint_core.specs.Kept.{state_of}
use Rattle.endpoint_core.specs.Step.{sent_at}
use Rattle.tunnel_traffic.specs.TrafficRows.{counted_all}
use Rattle.tunnel_traffic.specs.Tunnels.{outcome_rows}
use Rattle.tunnel_traffic.proofs.tunnels.count_leaving.Given as goal

-- what left at the places so far
abbrev pub invariant-loop-place : goal.invariant-loop-place
invariant-loop-place l =
    l.remotes ≡ counted_all l.fn.remotes (flat_map outcome_rows (map (sent_at (state_of l.endpoint).bridges.settings l.came.vid l.came.frame) (take l.place-index l.places)))
