-- The lines of what passes by tunnels: one fact a line, its words with one space between them, as
-- `unknown vxlan 5001 from 192.0.2.2 993`, `unknown others 7`, `remote vxlan:192.0.2.2 in 40 5120 out 12 1200` and
-- `remote others in 1 60 out 0 0`. It states no standard.
use Rattle.std.specs.Prelude.{ℕ, ◌==◌, ◌&&◌, if◌then◌else◌, List, [], ◌∷◌, ◌++◌, codes, decimal}
use Rattle.std.specs.List.{flat_map}
use Rattle.wire.specs.declared.ip_udp.addr.Tunnel.{Tunnel}
use Rattle.wire.specs.declared.ip_udp.addr.Tunnel.TheVariants.{Vxlan, Geneve}
use Rattle.endpoint_core.specs.Text.{addr_text, kind_text}
use Rattle.tunnel_traffic.specs.TrafficRows.{TrafficRow}
use Rattle.tunnel_traffic.specs.declared.rows.traffic.Traffic.{Traffic}
use Rattle.tunnel_traffic.specs.Tables.{Tunnels}

-- ---- networks that no segment has

-- the kind of a tunnel
abbrev pub kind_name : Tunnel → List ℕ
kind_name Vxlan = codes "vxlan"
kind_name Geneve = codes "geneve"

-- how many packets of a network came from a sender
unfoldable pub unknown_line : TrafficRow → List ℕ
unknown_line row =
    codes "unknown " ++ kind_name row.key.kind ++ codes " " ++ decimal row.key.vni
    ++ codes " from " ++ addr_text row.key.address ++ codes " " ++ decimal row.counts.came ++ 10 ∷ []

-- how many of others; nothing where there are none
unfoldable pub unknown_others : Traffic → List ℕ
unknown_others traffic = if traffic.came == 0 then [] else codes "unknown others " ++ decimal traffic.came ++ 10 ∷ []

-- ---- remote endpoints

-- packets in both directions, and their octets together
abbrev pub flows_text : Traffic → List ℕ
flows_text traffic =
    codes " in " ++ decimal traffic.came ++ codes " " ++ decimal traffic.came_octets
    ++ codes " out " ++ decimal traffic.left ++ codes " " ++ decimal traffic.left_octets ++ 10 ∷ []

-- of a remote endpoint
unfoldable pub remote_line : TrafficRow → List ℕ
remote_line row = codes "remote " ++ kind_text row.key.kind ++ addr_text row.key.address ++ flows_text row.counts

-- of the others; nothing where nothing passed
unfoldable pub remote_others : Traffic → List ℕ
remote_others traffic = if (traffic.came == 0) && (traffic.left == 0) then [] else codes "remote others" ++ flows_text traffic

-- ---- all of it

abbrev pub tunnels_text : Tunnels → List ℕ
tunnels_text t =
    flat_map unknown_line t.unknown.rows ++ unknown_others t.unknown.others
    ++ flat_map remote_line t.remotes.rows ++ remote_others t.remotes.others
