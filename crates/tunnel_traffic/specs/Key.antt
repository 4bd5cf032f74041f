-- By what traffic of tunnels is counted, and the order of its rows. It states no standard.
use Rattle.std.specs.Prelude.{ℕ, ◌+◌, ◌*◌, ◌^◌}
use Rattle.wire.specs.Octets.{field}
use Rattle.wire.specs.declared.ip_udp.addr.Addr.{Addr}
use Rattle.wire.specs.declared.ip_udp.addr.Addr.TheVariants.{V4, V6}
use Rattle.wire.specs.declared.ip_udp.addr.Tunnel.{Tunnel}
use Rattle.wire.specs.declared.ip_udp.addr.Tunnel.TheVariants.{Vxlan, Geneve}
use Rattle.tunnel_traffic.specs.declared.rows.key.TunnelKey.{TunnelKey}

-- ---- the order

-- VXLAN stands first
abbrev pub kind_number : Tunnel → ℕ
kind_number Vxlan = 0
kind_number Geneve = 1

-- IPv4 stands first
abbrev pub family_number : Addr → ℕ
family_number (V4 b) = 0
family_number (V6 b) = 1

-- the number that the octets of an address spell
abbrev pub address_number : Addr → ℕ
address_number (V4 b) = field 0 4 b
address_number (V6 b) = field 0 16 b

-- keys are ordered by their kinds, by networks, by families and by addresses
unfoldable pub rank : TunnelKey → ℕ
rank k = ((kind_number k.kind * 2 ^ 32 + k.vni) * 2 + family_number k.address) * 2 ^ 128 + address_number k.address
