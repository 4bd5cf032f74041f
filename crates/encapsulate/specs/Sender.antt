-- What holds of an endpoint's own settings. It states no standard.
use Rattle.std.specs.Prelude.{◌≡◌, ◌≢◌, ◌<◌, ℕ, ◌^◌, true, false, List, length, Option, IfSome}
use Rattle.std.specs.Option.{option_map}
use Rattle.std.specs.FinMap.{get}
use Rattle.wire.specs.declared.ip_udp.addr.Addr.{Addr}
use Rattle.wire.specs.declared.ip_udp.addr.Addr.TheVariants.{V4, V6}
use Rattle.wire.specs.Addr.{IsAddr, is_group, is_usable}
use Rattle.overlay.specs.declared.underlay.settings.Underlay.{Underlay}

-- the own address of the family of an address
abbrev pub own_addr : Underlay → Addr → Option Addr
own_addr U (V4 b) = option_map V4 U.ip4
own_addr U (V6 b) = option_map V6 U.ip6

-- an address that an endpoint can have: usable, and no group's
pub record IsOwnAddr (a : Addr) : Type 0 where
  pub is_addr : IsAddr a
  pub usable : is_usable a ≡ true
  pub unicast : is_group a ≡ false

-- MAC addresses of 6 octets, own addresses as above, an MTU and ports of 16 bits, and two tunnel ports that differ
pub record IsUnderlay (U : Underlay) : Type 0 where
  pub mac : length U.mac ≡ 6
  pub next_hop : length U.next_hop ≡ 6
  pub hops : (a : List ℕ) → IfSome (get U.hops a) (λ mac. length mac ≡ 6)
  pub ip4 : IfSome U.ip4 (λ b. IsOwnAddr (V4 b))
  pub ip6 : IfSome U.ip6 (λ b. IsOwnAddr (V6 b))
  pub mtu : U.mtu < 2 ^ 16
  pub vxlan_port : U.vxlan_port < 2 ^ 16
  pub geneve_port : U.geneve_port < 2 ^ 16
  pub two_ports : U.vxlan_port ≢ U.geneve_port
