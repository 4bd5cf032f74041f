-- The networks of a fabric. It states no standard.
use Rattle.std.specs.Prelude.{◌≡◌, ◌↔◌, ℕ, ◌+◌, ◌*◌, List, map}
use Rattle.std.specs.Option.{option_map_or}
use Rattle.wire.specs.declared.ip_udp.addr.Tunnel.{Tunnel}
use Rattle.wire.specs.declared.ip_udp.addr.Tunnel.TheVariants.{Vxlan, Geneve}
use Rattle.overlay.specs.declared.underlay.tunnels.SegmentTunnel.{SegmentTunnel}
use Rattle.overlay.specs.Tunnels.{of_kind}
use Rattle.fabric_ways.specs.Labels.{Labels, Links, label_in}
use Rattle.fabric_ways.specs.declared.member.Member.{Member}

-- a number for each kind and VNI: twice the VNI, and one more for Geneve
abbrev pub number_by : Tunnel → ℕ → ℕ
number_by Vxlan vni = 2 * vni
number_by Geneve vni = 2 * vni + 1

abbrev pub number_of : SegmentTunnel → ℕ
number_of t = number_by t.kind t.vni

-- the number of a segment's first tunnel, that of VXLAN where it has two
abbrev pub first_number : Member → ℕ
first_number X = option_map_or number_of (of_kind Vxlan X.tunnels) (option_map_or number_of (of_kind Geneve X.tunnels) 0)

-- the number of its last, that of Geneve where it has two
abbrev pub last_number : Member → ℕ
last_number X = option_map_or number_of (of_kind Geneve X.tunnels) (option_map_or number_of (of_kind Vxlan X.tunnels) 0)

-- the numbers of a segment's tunnels
abbrev pub link : Member → ℕ × ℕ
link X = (first_number X, last_number X)

-- the numbers of each segment's tunnels
abbrev pub links : List Member → List (ℕ × ℕ)
links members = map link members

-- two segments are of one network: whatever gives the tunnels of each segment one value, by kind and VNI, gives these two one
-- value. So the networks are the least equivalence of segments that share a kind and a VNI
abbrev pub Joined : List Member → Member → Member → Type 0
Joined members X Y = (f : ℕ → ℕ) → Links f (links members) → f (first_number X) ≡ f (first_number Y)

-- a number for each segment, which two have in common where they are of one network, and only there
abbrev pub AreNumbers : List Member → (Member → ℕ) → Type 0
AreNumbers members number = (X Y : Member) → (number X ≡ number Y) ↔ Joined members X Y

-- the number of a segment's network, by labels
abbrev pub number_in : Labels → Member → ℕ
number_in labels X = label_in labels (first_number X)
