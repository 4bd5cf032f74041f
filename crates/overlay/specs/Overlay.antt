-- The segments of an endpoint, with their tunnels (RFC 7348, 4; RFC 8926, 2) and flood lists, over its underlay.
use Rattle.std.specs.Prelude.{◌≡◌, ℕ, ◌==◌, Bool, true, false, not, ◌||◌, is_some, List, [], map, Option}
use Rattle.std.specs.List.{find, list_any, list_all, AllPairs}
use Rattle.std.specs.Option.{option_and_then, option_map_or}
use Rattle.std.specs.Ordering.{nat_cmp}
use Rattle.std.specs.FinMap.{FinMap, get, insert, remove, entries, from_entries}
use Rattle.wire.specs.declared.ip_udp.addr.Addr.{Addr}
use Rattle.wire.specs.declared.ip_udp.addr.Tunnel.{Tunnel}
use Rattle.overlay.specs.UnderlayFlood.{Entries, holds}
use Rattle.overlay.specs.Tunnels.{of_kind}
use Rattle.overlay.specs.declared.underlay.segment.PeerRule.TheVariants.{Any, Listed}
use Rattle.overlay.specs.declared.underlay.segment.TagRule.TheVariants.{Drop, Pass, Never}
use Rattle.overlay.specs.declared.underlay.segment.Segment.{Segment}
use Rattle.overlay.specs.declared.underlay.segment.TunnelRule.{TunnelRule}
use Rattle.overlay.specs.declared.underlay.settings.Underlay.{Underlay}
use Rattle.overlay.specs.declared.underlay.tunnels.SegmentTunnel.{SegmentTunnel}

-- the segments, each by its VID
abbrev pub Segments : Type 0
Segments = FinMap nat_cmp Segment

-- own addresses, next hops and ports, and the segments by VID
pub record Overlay : Type 0 where
  pub underlay : Underlay
  pub segments : Segments

-- ---- one segment

-- its tunnel of a kind
abbrev pub tunnel_of : Segment → Tunnel → Option SegmentTunnel
tunnel_of g kind = of_kind kind g.tunnels

-- its tunnel of this kind has this VNI
abbrev pub has_tunnel : Tunnel → ℕ → Segment → Bool
has_tunnel kind vni g = option_map_or (λ t. t.vni == vni) (tunnel_of g kind) false

-- a remote endpoint is on its flood list
abbrev pub floods : Segment → Tunnel → Addr → Bool
floods g kind a = holds g.flood kind a

-- only remote endpoints on its flood list may send to it
abbrev pub is_listed : Segment → Bool
is_listed g = elim g.peers [ Any ↦ false | Listed ↦ true ]

-- it drops frames in tunnels that begin with a tag
abbrev pub drops_tags : Segment → Bool
drops_tags g = elim g.tags [ Drop ↦ true | Pass ↦ false | Never ↦ true ]

-- it takes no frame whose body begins with a tag, at its local ports neither
abbrev pub refuses_tags : Segment → Bool
refuses_tags g = elim g.tags [ Drop ↦ false | Pass ↦ false | Never ↦ true ]

-- ---- the segments

-- the segment of a VID, where there is one
abbrev pub segment_at : Overlay → ℕ → Option Segment
segment_at S vid = get S.segments vid

-- there is one
abbrev pub has_segment : Overlay → ℕ → Bool
has_segment S vid = is_some (segment_at S vid)

-- the segment of this VID takes no frame whose body begins with a tag
abbrev pub refuses_tags_at : Overlay → ℕ → Bool
refuses_tags_at S vid = option_map_or refuses_tags (segment_at S vid) false

-- the flood list of the segment with this VID
abbrev pub flood_in : Segments → ℕ → Entries
flood_in segments vid = option_map_or (λ g. g.flood) (get segments vid) []

-- its flood list
abbrev pub flood_at : Overlay → ℕ → Entries
flood_at S vid = flood_in S.segments vid

-- its tunnel of a kind, where it has one
abbrev pub tunnel_at : Overlay → ℕ → Tunnel → Option SegmentTunnel
tunnel_at S vid kind = option_and_then (λ g. tunnel_of g kind) (segment_at S vid)

-- the VID and the segment whose tunnel of this kind has this VNI
abbrev pub segment_by : Overlay → Tunnel → ℕ → Option (ℕ × Segment)
segment_by S kind vni = find (λ e. has_tunnel kind vni e.1) (entries S.segments)

-- a VNI is taken, by a tunnel of this kind
abbrev pub taken : Overlay → Tunnel → ℕ → Bool
taken S kind vni = is_some (segment_by S kind vni)

-- no segment has a tunnel of the kind and VNI of one of these
abbrev pub are_free : Overlay → List SegmentTunnel → Bool
are_free S tunnels = list_all (λ t. not (taken S t.kind t.vni)) tunnels

-- ---- the segments that rules tell

-- the segment that a rule tells
abbrev pub segment_of : TunnelRule → Segment
segment_of rule = record { tunnels = rule.tunnels; flood = rule.flood; peers = rule.peers; tags = rule.tags }

-- two rules for one VID, or with tunnels of one kind and VNI
abbrev pub clash : TunnelRule → TunnelRule → Bool
clash a b = a.vid == b.vid || list_any (λ t. has_tunnel t.kind t.vni (segment_of a)) b.tunnels

-- no two rules clash
abbrev pub AreApart : List TunnelRule → Type 0
AreApart rules = AllPairs (λ a b. clash a b ≡ false) rules

-- the overlay that rules tell
abbrev pub told : Underlay → List TunnelRule → Overlay
told U rules = record { underlay = U; segments = from_entries (map (λ rule. (rule.vid, segment_of rule)) rules) }

-- ---- what the setters leave

-- with one more segment
abbrev pub with_segment : Overlay → TunnelRule → Overlay
with_segment S rule = record S { segments = insert S.segments rule.vid (segment_of rule) }

-- without a segment
abbrev pub without_segment : Overlay → ℕ → Overlay
without_segment S vid = record S { segments = remove S.segments vid }

-- with another flood list of a segment that is there
abbrev pub flooding : Segments → ℕ → Entries → Segments
flooding segments vid flood = option_map_or (λ g. insert segments vid (record g { flood = flood })) (get segments vid) segments

-- with another flood list of a segment
abbrev pub with_flood : Overlay → ℕ → Entries → Overlay
with_flood S vid flood = record S { segments = flooding S.segments vid flood }
