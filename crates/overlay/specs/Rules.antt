-- What settings keep to. It states no standard.
use Rattle.std.specs.Prelude.{◌≡◌, ℕ, ◌*◌, ◌≤◌, ◌==◌, ◌||◌, IsTrue, IsFalse, List, [], ◌∷◌, ◌++◌, length, is_some, is_none, IfSome, Some}
use Rattle.std.specs.List.{list_any}
use Rattle.std.specs.FinMap.{get, len}
use Rattle.wire.specs.declared.ip_udp.addr.Addr.{Addr}
use Rattle.wire.specs.declared.ip_udp.addr.Addr.TheVariants.{V4, V6}
use Rattle.wire.specs.Address.{is_group as is_group_mac}
use Rattle.wire.specs.Addr.{IsAddr, address, is_group, is_usable, same_kind}
use Rattle.overlay.specs.declared.flood.own.Own.{Own}
use Rattle.overlay.specs.declared.flood.remote.Remote.{Remote}
use Rattle.overlay.specs.First.{first}
use Rattle.overlay.specs.Flood.{Entries, add_faults}
use Rattle.wire.specs.GeneveOptions.{holds}
use Rattle.overlay.specs.declared.ports.port.PortRule.{PortRule}
use Rattle.overlay.specs.declared.underlay.settings.Underlay.{Underlay}
use Rattle.overlay.specs.declared.underlay.tunnels.SegmentTunnel.{SegmentTunnel}
use Rattle.overlay.specs.Overlay.{clash}
use Rattle.overlay.specs.UnderlaySettings.{own}
use Rattle.overlay.specs.declared.settings.segment.SegmentRule.{SegmentRule}
use Rattle.overlay.specs.Settings.{Settings, Exceptions, tunnel_rule, sum_of_limits, is_member}

-- a number of a range
abbrev pub IsWithin : ℕ → ℕ → ℕ → Type 0
IsWithin low high n = (low ≤ n) × (n ≤ high)

-- each item of a list, behind those before it
abbrev pub EachBehind : {A : Type 0} → (List A → A → Type 0) → List A → List A → Type 0
EachBehind P earlier [] = Unit {0}
EachBehind P earlier (x ∷ xs) = P earlier x × EachBehind P (earlier ++ x ∷ []) xs

-- ---- the underlay

-- an option's class and type, which stand there once
abbrev pub IsKnown : List (ℕ × ℕ) → ℕ × ℕ → Type 0
IsKnown earlier o = IsWithin 0 65535 o.0 × IsWithin 0 255 o.1 × IsFalse (holds earlier o.0 o.1)

-- an address that one endpoint can have: as long as its family's are, usable, and no group's
pub record IsEndpoint (a : Addr) : Type 0 where
  pub is_addr : IsAddr a
  pub usable : IsTrue (is_usable a)
  pub unicast : IsFalse (is_group a)

-- a MAC address of six octets that is no group's
pub record IsIndividual (mac : List ℕ) : Type 0 where
  pub six : length mac ≡ 6
  pub unicast : IsFalse (is_group_mac mac)

-- the address of one endpoint, and the MAC address of the next hop to it
abbrev pub IsHop : Addr × List ℕ → Type 0
IsHop h = IsEndpoint h.0 × IsIndividual h.1

-- each exception leads to one endpoint
abbrev pub AreHops : Exceptions → Type 0
AreHops hops = (octets mac : List ℕ) → get hops octets ≡ Some mac → (a : Addr) × (address a ≡ octets) × IsHop (a, mac)

-- the rules of the underlay
pub record IsUnderlay (u : Underlay) : Type 0 where
  pub mac : IsIndividual u.mac
  pub next_hop : IsIndividual u.next_hop
  pub ip4 : IfSome u.ip4 (λ ip. IsEndpoint (V4 ip))
  pub ip6 : IfSome u.ip6 (λ ip. IsEndpoint (V6 ip))
  pub family : IsTrue (is_some u.ip4 || is_some u.ip6)
  pub mtu : IsWithin 1280 65535 u.mtu
  pub ttl : IsWithin 1 255 u.ttl
  pub vxlan_port : IsWithin 1 65535 u.vxlan_port
  pub geneve_port : IsWithin 1 65535 u.geneve_port
  pub ports_apart : IsFalse (u.geneve_port == u.vxlan_port)
  pub known_count : length u.known ≤ 16
  pub known : EachBehind IsKnown [] u.known
  pub hop_count : len u.hops ≤ u.limits.hops
  pub hops : AreHops u.hops
  -- the most ports: as many as a number of 8 bits tells
  pub port_limit : IsWithin 1 255 u.limits.ports
  pub hop_limit : IsWithin 1 4096 u.limits.hops
  -- the most segments: all VIDs (IEEE 802.1Q, 9.6)
  pub limits : IsWithin 1 4094 u.limits.segments
  -- the most remotes of a segment, and of all segments together where each has as many
  pub flood_limit : IsWithin 1 512 u.limits.flood
  pub flood_product : u.limits.segments * u.limits.flood ≤ 1048576
  pub entries : IsWithin 1 131072 u.limits.entries
  pub addresses : IsWithin 1 1048576 u.limits.addresses

-- ---- ports and segments

-- the rules of a port
abbrev pub IsPort : List PortRule → PortRule → Type 0
IsPort earlier p = IsWithin 1 4094 p.pvid

-- a port that stands once on a list of members, and not on the other list
abbrev pub IsMember : ℕ → List ℕ → List ℕ → ℕ → Type 0
IsMember ports other earlier p = IsWithin 1 ports p × IsFalse (is_member earlier p) × IsFalse (is_member other p)

-- a tunnel of a kind that no earlier one of the segment has
abbrev pub IsTunnel : List SegmentTunnel → SegmentTunnel → Type 0
IsTunnel earlier t = IsWithin 0 16777215 t.vni × IsWithin 0 255 t.group × IsFalse (list_any (λ e. same_kind e.kind t.kind) earlier)

-- a remote that a flood list of so many at most takes, by a kind of tunnel that the segment has, at an address as long as its family's are
pub record IsRemote (own : Own) (most : ℕ) (tunnels : List SegmentTunnel) (earlier : Entries) (r : Remote) : Type 0 where
  pub kind : IsTrue (list_any (λ t. same_kind t.kind r.tunnel) tunnels)
  pub taken : IsTrue (is_none (first (add_faults own most earlier r.tunnel r.addr)))
  pub is_addr : IsAddr r.addr

-- a segment of an endpoint with these own addresses, so many remotes of a segment at most, and so many ports
pub record IsSegment (own : Own) (most ports : ℕ) (earlier : List SegmentRule) (s : SegmentRule) : Type 0 where
  pub vid : IsWithin 1 4094 s.vid
  pub tunnel_count : IsWithin 1 2 (length s.tunnels)
  pub tunnels : EachBehind IsTunnel [] s.tunnels
  pub flood_count : length s.flood ≤ most
  pub flood : EachBehind (IsRemote own most s.tunnels) [] s.flood
  pub limit : 1 ≤ s.limit
  -- in seconds (802.1Q, 8.8.3)
  pub ageing : IsWithin 10 1000000 s.ageing
  pub untagged : EachBehind (IsMember ports []) [] s.untagged
  pub tagged : EachBehind (IsMember ports s.untagged) [] s.tagged
  -- no segment before it has its VID, or a tunnel of the same kind and VNI
  pub apart : IsFalse (list_any (λ e. clash (tunnel_rule e) (tunnel_rule s)) earlier)

-- a segment whose limit is at most this
abbrev pub HasEntries : ℕ → List SegmentRule → SegmentRule → Type 0
HasEntries most earlier s = s.limit ≤ most

-- ---- all

-- all rules of settings
pub record MeetsRules (s : Settings) : Type 0 where
  pub underlay : IsUnderlay s.underlay
  pub port_count : IsWithin 1 s.underlay.limits.ports (length s.ports)
  pub ports : EachBehind IsPort [] s.ports
  pub segment_count : IsWithin 1 s.underlay.limits.segments (length s.segments)
  pub segments : EachBehind (IsSegment (own s.underlay) s.underlay.limits.flood (length s.ports)) [] s.segments
  pub entries : EachBehind (HasEntries s.underlay.limits.entries) [] s.segments
  pub pool : IsWithin 1 s.underlay.limits.addresses s.pool
  pub limits : sum_of_limits s.segments ≤ s.pool
