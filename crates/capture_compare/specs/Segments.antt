-- Which segment of an endpoint's settings a record is of (IEEE 802.1Q, 6.9; RFC 7348, 4; RFC 8926, 3.4).
--     index_of       the segments and ports of settings
--     segment_at     the segment of a record
use Rattle.std.specs.Prelude.{ℕ, ◌-◌, ◌==◌, nat_lt, if◌then◌else◌, List, map, slice_get, Option, Some, None}
use Rattle.std.specs.Option.{option_map}
use Rattle.overlay.specs.declared.ports.port.PortRule.{PortRule}
use Rattle.overlay.specs.Overlay.{Overlay, has_segment, segment_by, told}
use Rattle.overlay.specs.declared.underlay.settings.Underlay.{Underlay}
use Rattle.overlay.specs.Settings.{Settings, tunnel_rule}
use Rattle.capture_compare.specs.Tunnelled.{tunnelled_whole}
use Rattle.record_match.specs.Match.{Record}
use Rattle.capture_compare.specs.declared.carried.tunnels.Tunnels.{Tunnels}
use Rattle.wire.specs.declared.ip_udp.addr.Tunnel.{Tunnel as TunnelKind}
use Rattle.capture_compare.specs.Segment as tells
use Rattle.capture_compare.specs.Segment.{frame_segment, tunnel_segment}
use Rattle.capture_compare.specs.declared.lonely.segment.RecordSegment.{RecordSegment}
use Rattle.capture_compare.specs.declared.lonely.segment.RecordSegment.TheVariants.{Untagged, Vlan, Tunnel, NoTunnel}
use Rattle.capture_compare.specs.declared.segments.reading.PlaceReading.{PlaceReading}
use Rattle.capture_compare.specs.declared.segments.reading.PlaceReading.TheVariants.{Port, Keys, Packets}

-- the segments of settings with their tunnels, and the ports, the first of them port 1
pub record Index : Type 0 where
  pub overlay : Overlay
  pub ports : List PortRule

abbrev pub index_of : Settings → Index
index_of s = record { overlay = told s.underlay (map tunnel_rule s.segments); ports = s.ports }

-- the tunnels of an underlay, by which a packet is read
abbrev pub tunnels_of : Underlay → Tunnels
tunnels_of u = record { vxlan_port = u.vxlan_port; geneve_port = u.geneve_port; known = u.known; partial = u.partial }

-- ---- frames at ports

-- the PVID of a port, where it is one
abbrev pub pvid_at : List PortRule → ℕ → Option ℕ
pvid_at ports port = option_map (λ p. p.pvid) (slice_get ports (port - 1))

-- the VID of a frame with this one in its tag: the PVID where that is 0, and none where it is 4095, which is reserved
abbrev pub tag_vid : Option ℕ → ℕ → Option ℕ
tag_vid pvid w = if w == 0 then pvid else (if nat_lt w 4095 then Some w else None)

-- a VID, where there is a segment of it
abbrev pub known : Overlay → Option ℕ → Option ℕ
known S None = None
known S (Some vid) = if has_segment S vid then Some vid else None

-- the VID of a frame that tells this, at a port with this PVID
abbrev pub frame_vid : Option ℕ → RecordSegment → Option ℕ
frame_vid pvid Untagged = pvid
frame_vid pvid (Vlan w) = tag_vid pvid w
frame_vid pvid (Tunnel kind vni) = None
frame_vid pvid NoTunnel = None

abbrev pub port_segment : Index → ℕ → List ℕ → Option ℕ
port_segment i port b = known i.overlay (frame_vid (pvid_at i.ports port) (frame_segment b))

-- ---- packets of the underlay

-- the segment that has this tunnel
abbrev pub vid_by : Overlay → TunnelKind → ℕ → Option ℕ
vid_by S kind vni = option_map (λ found. found.0) (segment_by S kind vni)

-- that of a packet that tells this
abbrev pub told_segment : Overlay → RecordSegment → Option ℕ
told_segment S Untagged = None
told_segment S (Vlan w) = None
told_segment S (Tunnel kind vni) = vid_by S kind vni
told_segment S NoTunnel = None

-- that of a packet, by the key of what it carries, or by its octets
abbrev pub key_segment : Index → List ℕ → Option ℕ
key_segment i key = told_segment i.overlay (tells.packet_segment key)

abbrev pub packet_segment : Index → Record → Option ℕ
packet_segment i r = told_segment i.overlay (tunnel_segment (tunnelled_whole (tunnels_of i.overlay.underlay) r.missing r.octets))

-- ---- records

-- the VID of a record's segment, by how its octets are read
abbrev pub segment_at : Index → PlaceReading → Record → Option ℕ
segment_at i (Port port) r = port_segment i port r.octets
segment_at i Keys r = key_segment i r.octets
segment_at i Packets r = packet_segment i r
