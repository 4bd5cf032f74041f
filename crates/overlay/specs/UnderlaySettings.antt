-- The settings of the underlay. It states no standard.
use Rattle.std.specs.Prelude.{ℕ, ◌==◌, Bool, List, Option, Some, None, unwrap_or, if◌then◌else◌}
use Rattle.std.specs.FinMap.{get}
use Rattle.overlay.specs.declared.flood.own.Own.{Own}
use Rattle.overlay.specs.Flood as flood
use Rattle.wire.specs.declared.ip_udp.addr.Addr.{Addr}
use Rattle.wire.specs.declared.ip_udp.addr.Tunnel.{Tunnel}
use Rattle.wire.specs.declared.ip_udp.addr.Tunnel.TheVariants.{Vxlan, Geneve}
use Rattle.wire.specs.Addr.{address, is_group, group_mac}
use Rattle.overlay.specs.declared.underlay.settings.Underlay.{Underlay}

-- the endpoint's own addresses
abbrev pub own : Underlay → Own
own U = record { ip4 = U.ip4; ip6 = U.ip6 }

-- an address is the endpoint's own
abbrev pub is_own : Underlay → Addr → Bool
is_own U a = flood.is_own (own U) a

-- the kind of the tunnels at a UDP port
abbrev pub kind_at : Underlay → ℕ → Option Tunnel
kind_at U port = if port == U.vxlan_port then Some Vxlan else if port == U.geneve_port then Some Geneve else None

-- the UDP port of the tunnels of a kind
abbrev pub port_of : Underlay → Tunnel → ℕ
port_of U Vxlan = U.vxlan_port
port_of U Geneve = U.geneve_port

-- the MAC address to send to: that of a group, the exception for this address, or the next hop's
abbrev pub hop_to : Underlay → Addr → List ℕ
hop_to U a = if is_group a then group_mac a else unwrap_or (get U.hops (address a)) U.next_hop
