-- What passed by the tunnels of an endpoint, in two tables. It states no standard.
--     Tunnels      what was counted
--     both      that of two parts of a run
--     IsTold      tables that a run can have
use Rattle.std.specs.Prelude.{◌≡◌, ◌<◌, ◌≤◌, ◌^◌, All, ℕ, length}
use Rattle.wire.specs.Addr.{IsAddr}
use Rattle.wire.specs.declared.ip_udp.addr.Addr.{Addr}
use Rattle.wire.specs.Vxlan.{IsVni}
use Rattle.wire.specs.declared.ip_udp.addr.Tunnel.{Tunnel}
use Rattle.ranked_rows.specs.Rows.{AreRising}
use Rattle.tunnel_traffic.specs.Key.{rank}
use Rattle.tunnel_traffic.specs.TrafficRows.{Rows, TrafficRow, no_rows, together}
use Rattle.tunnel_traffic.specs.declared.rows.key.TunnelKey.{TunnelKey}
use Rattle.tunnel_traffic.specs.Traffic.{no_traffic}
use Rattle.tunnel_traffic.specs.declared.rows.traffic.Traffic.{Traffic}

-- ---- what was counted

-- all networks of a remote endpoint
abbrev pub endpoint_key : Tunnel → Addr → TunnelKey
endpoint_key kind addr = record { kind = kind; vni = 0; address = addr }

-- of packets of networks that no segment has, and of remote endpoints
pub record Tunnels : Type 0 where
  pub unknown : Rows
  pub remotes : Rows

-- nothing
abbrev pub no_tunnels : Tunnels
no_tunnels = record { unknown = no_rows; remotes = no_rows }

-- that of two parts: of each table the rows together, and what the others come to
abbrev pub both : Tunnels → Tunnels → Tunnels
both a b = record { unknown = together a.unknown b.unknown; remotes = together a.remotes b.remotes }

-- so many packets came, and no line tells their octets
abbrev pub packets_of : ℕ → Traffic
packets_of count = record { came = count; came_octets = 0; left = 0; left_octets = 0 }

-- ---- tables of runs

-- a network, and who sent its packets
pub record IsNetwork (key : TunnelKey) : Type 0 where
  pub network : IsVni key.vni
  pub address : IsAddr key.address

-- a remote endpoint
pub record IsEndpoint (key : TunnelKey) : Type 0 where
  pub network : key.vni ≡ 0
  pub address : IsAddr key.address

-- packets that came, without their octets
pub record ArePackets (traffic : Traffic) : Type 0 where
  pub packets : traffic ≡ packets_of traffic.came
  pub fits : traffic.came < 2 ^ 64

-- all counts are of 64 bits, and octets are there only where packets are
pub record IsTraffic (traffic : Traffic) : Type 0 where
  pub came : traffic.came < 2 ^ 64
  pub came_octets : traffic.came_octets < 2 ^ 64
  pub left : traffic.left < 2 ^ 64
  pub left_octets : traffic.left_octets < 2 ^ 64
  pub silent : traffic.came ≡ 0 → traffic.left ≡ 0 → traffic ≡ no_traffic

-- a row with such a key and such traffic
pub record IsRow (IsKey : TunnelKey → Type 0) (IsCount : Traffic → Type 0) (row : TrafficRow) : Type 0 where
  pub key : IsKey row.key
  pub count : IsCount row.counts

-- at most 4,096 such rows, one for each key, in the order of their ranks, and what the others come to
pub record IsTable (IsKey : TunnelKey → Type 0) (IsCount : Traffic → Type 0) (table : Rows) : Type 0 where
  pub each : All (IsRow IsKey IsCount) table.rows
  pub rise : AreRising rank table.rows
  pub few : length table.rows ≤ 4096
  pub others : IsCount table.others

-- a table of each
pub record IsTold (t : Tunnels) : Type 0 where
  pub unknown : IsTable IsNetwork ArePackets t.unknown
  pub remotes : IsTable IsEndpoint IsTraffic t.remotes
