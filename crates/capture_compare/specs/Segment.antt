-- The segment that a record tells by itself: the VID in the tag of a frame (IEEE 802.1Q, 9.6), or the VNI of a packet's tunnel
-- (RFC 7348, 5; RFC 8926, 3.4).
use Rattle.std.specs.Prelude.{ℕ, nat_lt, if◌then◌else◌, List, length, Option, Some, None}
use Rattle.wire.specs.Ether.{Split, Untagged, WithTag, CutShort, tag_split}
use Rattle.wire.specs.Tag.{vid_of}
use Rattle.capture_compare.specs.Tunnelled.{Tunnelled}
use Rattle.capture_compare.specs.KeyRead.{key_read}
use Rattle.capture_compare.specs.declared.lonely.segment.Reading.{Reading}
use Rattle.capture_compare.specs.declared.lonely.segment.Reading.TheVariants as readings
use Rattle.capture_compare.specs.declared.lonely.segment.RecordSegment.{RecordSegment}
use Rattle.capture_compare.specs.declared.lonely.segment.RecordSegment.TheVariants as segments

-- by how the tag of a frame is split off; one that is cut counts as none
abbrev pub tag_segment : Split → RecordSegment
tag_segment (Untagged body) = segments.Untagged
tag_segment (WithTag tci body) = segments.Vlan (vid_of tci)
tag_segment CutShort = segments.Untagged

-- of a frame; what is no frame has no tag
abbrev pub frame_segment : List ℕ → RecordSegment
frame_segment b = if nat_lt (length b) 14 then segments.Untagged else tag_segment (tag_split b)

-- of what a packet carries in a tunnel, where it does
abbrev pub tunnel_segment : Option Tunnelled → RecordSegment
tunnel_segment (Some t) = segments.Tunnel t.kind t.vni
tunnel_segment None = segments.NoTunnel

-- of a packet, by its key
abbrev pub packet_segment : List ℕ → RecordSegment
packet_segment key = tunnel_segment (key_read key)

-- of a record by its key
abbrev pub segment_by : Reading → List ℕ → RecordSegment
segment_by readings.Frame key = frame_segment key
segment_by readings.Packet key = packet_segment key
