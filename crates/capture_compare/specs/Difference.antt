-- The one thing in which a record that was received differs from one that was sent, by their keys, where as many octets of both
-- are missing. It states no standard.
--     tunnel_difference    of what two packets carry: the kind, the address to which they go, or the VNI
--     frame_difference     of two frames: the tag, or the length
use Rattle.std.specs.Prelude.{ℕ, ◌==◌, ◌&&◌, ◌||◌, not, nat_lt, if◌then◌else◌, Bool, true, false, List, length, take, Option, Some, None}
use Rattle.wire.specs.Octets.{begins, is_same}
use Rattle.wire.specs.Ether.{Split, Untagged, WithTag, CutShort, tag_split}
use Rattle.wire.specs.Tag.{vid_of}
use Rattle.wire.specs.Addr.{same_addr, same_kind}
use Rattle.capture_compare.specs.Tunnelled.{Tunnelled}
use Rattle.capture_compare.specs.KeyRead.{key_read}
use Rattle.capture_compare.specs.declared.lonely.difference.Difference.{Difference}
use Rattle.capture_compare.specs.declared.lonely.difference.Difference.TheVariants.{Vni, Kind, Remote, Tag, Length}
use Rattle.capture_compare.specs.declared.lonely.segment.Reading.{Reading}
use Rattle.capture_compare.specs.declared.lonely.segment.Reading.TheVariants as readings

-- ---- packets

-- two packets carry the same options and inner text, from the same address
abbrev pub same_rest : Tunnelled → Tunnelled → Bool
same_rest sent received =
    (is_same sent.inner received.inner && is_same sent.options received.options) && same_addr sent.source received.source

-- by whether their kinds, the addresses to which they go, and their VNIs are the same: just one of these isn't
abbrev pub alone : Bool → Bool → Bool → Tunnelled → Tunnelled → Option Difference
alone false true true sent received = Some (Kind received.kind sent.kind)
alone true false true sent received = Some (Remote received.destination sent.destination)
alone true true false sent received = Some (Vni received.vni sent.vni)
alone true true true sent received = None
alone true false false sent received = None
alone false true false sent received = None
alone false false true sent received = None
alone false false false sent received = None

abbrev pub tunnel_difference : Tunnelled → Tunnelled → Option Difference
tunnel_difference sent received =
    if same_rest sent received
    then alone (same_kind sent.kind received.kind) (same_addr sent.destination received.destination) (sent.vni == received.vni)
    sent received
    else None

abbrev pub difference_of : Option Tunnelled → Option Tunnelled → Option Difference
difference_of (Some sent) (Some received) = tunnel_difference sent received
difference_of (Some sent) None = None
difference_of None (Some received) = None
difference_of None None = None

abbrev pub packet_difference : List ℕ → List ℕ → Option Difference
packet_difference sent received = difference_of (key_read sent) (key_read received)

-- ---- frames

-- what a frame is but for its tag, and the VID in that, if it has one
pub record BareFrame : Type 0 where
  pub addresses : List ℕ
  pub vid : Option ℕ
  pub body : List ℕ

abbrev pub bare_by : List ℕ → Split → Option BareFrame
bare_by b (Untagged body) = Some (record { addresses = take 12 b; vid = None; body = body })
bare_by b (WithTag tci body) = Some (record { addresses = take 12 b; vid = Some (vid_of tci); body = body })
bare_by b CutShort = None

-- nothing of what is no frame, and of a tag that is cut
abbrev pub bare_of : List ℕ → Option BareFrame
bare_of b = if nat_lt (length b) 14 then None else bare_by b (tag_split b)

abbrev pub same_vid : Option ℕ → Option ℕ → Bool
same_vid (Some a) (Some b) = a == b
same_vid (Some a) None = false
same_vid None (Some b) = false
same_vid None None = true

-- the VIDs of two frames alone differ; the priorities in tags aren't looked at
abbrev pub is_tag_alone : BareFrame → BareFrame → Bool
is_tag_alone sent received =
    (is_same sent.addresses received.addresses && is_same sent.body received.body) && not (same_vid sent.vid received.vid)

-- their lengths alone differ: one is a front of the other
abbrev pub is_length_alone : List ℕ → List ℕ → Bool
is_length_alone sent received = not (length sent == length received) && (begins received sent || begins sent received)

-- of whole ones: of what is cut nobody knows how it goes on
abbrev pub length_difference : ℕ → List ℕ → List ℕ → Option Difference
length_difference missing sent received =
    if missing == 0 && is_length_alone sent received then Some (Length (length received) (length sent)) else None

abbrev pub tag_difference : Option BareFrame → Option BareFrame → Option Difference
tag_difference (Some sent) (Some received) = if is_tag_alone sent received then Some (Tag received.vid sent.vid) else None
tag_difference (Some sent) None = None
tag_difference None (Some received) = None
tag_difference None None = None

abbrev pub or_else : Option Difference → Option Difference → Option Difference
or_else (Some d) other = Some d
or_else None other = other

abbrev pub frame_difference : ℕ → List ℕ → List ℕ → Option Difference
frame_difference missing sent received =
    or_else (tag_difference (bare_of sent) (bare_of received)) (length_difference missing sent received)

-- of records by their keys, where so many octets of each are missing
abbrev pub difference_by : Reading → ℕ → List ℕ → List ℕ → Option Difference
difference_by readings.Frame missing sent received = frame_difference missing sent received
difference_by readings.Packet missing sent received = packet_difference sent received
