-- What an index of the segments by their VNIs holds. It serves proofs.
use Rattle.std.specs.Prelude.{◌≡◌, ℕ, ◌+◌, ◌==◌, Bool, false, is_some, if◌then◌else◌, List, [], ◌∷◌, Option}
use Rattle.std.specs.Option.{option_map_or}
use Rattle.std.specs.Ordering.{nat_cmp}
use Rattle.std.specs.FinMap.{FinMap, get, insert, remove, len, entries}
use Rattle.wire.specs.declared.ip_udp.addr.Tunnel.{Tunnel}
use Rattle.overlay.specs.declared.underlay.segment.Segment.{Segment}
use Rattle.overlay.specs.declared.underlay.tunnels.SegmentTunnel.{SegmentTunnel}
use Rattle.overlay.specs.Overlay.{Segments, tunnel_of, has_tunnel}

-- VIDs by VNIs
abbrev pub Index : Type 0
Index = FinMap nat_cmp ℕ

-- an index, and the most VIDs that there is room for in it
pub record Listed : Type 0 where
  pub vids : Index
  pub most : ℕ

-- the index has this VID at this VNI
abbrev pub leads_to : Index → ℕ → ℕ → Bool
leads_to index vni vid = option_map_or (λ at. at == vid) (get index vni) false

-- the segment with this VID has a tunnel of this kind and VNI
abbrev pub has_at : Tunnel → Segments → ℕ → ℕ → Bool
has_at kind segments vni vid = option_map_or (has_tunnel kind vni) (get segments vid) false

-- a segment has a tunnel of this kind
abbrev pub has_kind : Tunnel → Segment → Bool
has_kind kind g = is_some (tunnel_of g kind)

-- with the VID at the VNI of a tunnel, and without what stands there
abbrev pub listing : Index → Option SegmentTunnel → ℕ → Index
listing index tunnel vid = option_map_or (λ t. insert index t.vni vid) tunnel index

-- an index without the VNI of a tunnel
abbrev pub unlisting : Index → Option SegmentTunnel → Index
unlisting index tunnel = option_map_or (λ t. remove index t.vni) tunnel index

-- how many of the values pass a test
abbrev pub how_many : {K X : Type 0} → (X → Bool) → List (K × X) → ℕ
how_many p [] = 0
how_many p (e ∷ es) = (if p e.1 then 1 else 0) + how_many p es

-- it leads from the VNI of each segment's tunnel of a kind to that segment, and from no other
pub record Indexes (kind : Tunnel) (segments : Segments) (index : Index) : Type 0 where
  pub leads : (vni vid : ℕ) → leads_to index vni vid ≡ has_at kind segments vni vid
  pub size : len index ≡ how_many (has_kind kind) (entries segments)
