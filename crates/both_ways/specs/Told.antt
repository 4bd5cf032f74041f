-- What a record of a capture tells: who sent a packet, and which frame it brings to a segment. A frame is compared without its
-- VLAN tag, since the port that it came in by and the one that it leaves by may tag it differently, and a tunnel carries it
-- without.
--     outer_source   who sent a packet
--     untagged       a frame without its tag
--     outlets        where a segment sends frames out
--     brought        what a frame that came to a segment tells a window
use Rattle.std.specs.Prelude.{ℕ, ◌==◌, ◌&&◌, ◌++◌, nat_le, not, Bool, false, true, if◌then◌else◌}
use Rattle.std.specs.Prelude.{List, [], ◌∷◌, length, take, drop, replicate, set, Option, Some, None, Result, Ok, Err}
use Rattle.std.specs.List.{filter, list_all}
use Rattle.echo_window.specs.Echo.{Record}
use Rattle.endpoint_core.specs.Arrival.{Arrival}
use Rattle.wire.specs.Datagram.{behind_tags, has_type}
use Rattle.wire.specs.Ether.{Untagged, WithTag, CutShort, tag_split}
use Rattle.wire.specs.Frame.{Frame}
use Rattle.wire.specs.Ip.{Family, Ip4, Ip6, source, version}
use Rattle.wire.specs.declared.ether.reason.Refused.{Refused}
use Rattle.wire.specs.declared.ip_udp.addr.Addr.{Addr}
use Rattle.timeline.specs.declared.source.Tap.{Tap}
use Rattle.timeline.specs.declared.source.Tap.TheVariants.{Port, Underlay as AtUnderlay}
use Rattle.overlay.specs.Ports.{Ports}
use Rattle.overlay.specs.Row.{is_up, member_ports, row_at}
use Rattle.overlay.specs.UnderlaySettings.{is_own}
use Rattle.overlay.specs.declared.underlay.settings.Underlay.{Underlay}

-- the number of a place: 0 for the underlay, that of a port from 1
abbrev pub place_of : Tap → ℕ
place_of (Port port) = port
place_of AtUnderlay = 0

-- the place of a number
abbrev pub tap_at : ℕ → Tap
tap_at place = if place == 0 then AtUnderlay else Port place

-- a frame without its tag (IEEE 802.1Q, 9.6): one of a customer, also where it has a priority alone. A frame without a tag, or
-- one whose tag is cut, is as it stands
abbrev pub untagged : List ℕ → List ℕ
untagged b = elim (tag_split b) [ Untagged body ↦ b | WithTag tci body ↦ take 12 b ++ body | CutShort ↦ b ]

-- ---- who sent a packet

-- the version in the header of a family (RFC 791, 3.1; RFC 8200, 3)
abbrev pub version_of : Family → ℕ
version_of Ip4 = 4
version_of Ip6 = 6

-- how many octets of a header reach to the end of its source address
abbrev pub source_end : Family → ℕ
source_end Ip4 = 16
source_end Ip6 = 24

-- the source address of a header of this family, where a text begins as one does and reaches to the end of that
abbrev pub source_in : Family → List ℕ → Option Addr
source_in f h = if version h == version_of f && nat_le (source_end f) (length h) then Some (source f h) else None

-- the same behind a type
abbrev pub typed_source : List ℕ → Option Addr
typed_source t = if has_type Ip4 t then source_in Ip4 (drop 2 t) else if has_type Ip6 t then source_in Ip6 (drop 2 t) else None

-- the outer source address, where it can be read: behind at most two tags stand a type of IP and such a text. Nothing else of
-- the packet is asked, which may be cut, have a wrong length or checksum, be a fragment, or carry whatever it does
abbrev pub outer_source : List ℕ → Option Addr
outer_source b = typed_source (behind_tags b)

-- the endpoint itself sent a packet: its outer source is an own address
abbrev pub is_sent : Underlay → List ℕ → Bool
is_sent U b = elim (outer_source b) [ None ↦ false | Some a ↦ is_own U a ]

-- ---- which frame a record brings to a segment

-- a set of places, by the numbers of 256, with some more
abbrev pub with_places : List Bool → List ℕ → List Bool
with_places places [] = places
with_places places (p ∷ ps) = with_places (set places p true) ps

-- that of none
abbrev pub no_places : List Bool
no_places = replicate 256 false

-- the ports where a segment sends frames out: those of its members that are up (IEEE 802.1Q, 8.4)
abbrev pub outlets : Ports → ℕ → List Bool
outlets P vid = with_places no_places (filter (is_up (row_at P vid)) (member_ports (row_at P vid)))

-- the octets of a frame, without its tag
abbrev pub text_of : Frame → List ℕ
text_of f = (f.dst ++ f.src) ++ f.body

-- what a window is told of a frame of these octets that came in at a place, at a moment, by the record of this number there, and
-- may leave by these ports, if there are any
abbrev pub awaiting : ℕ → ℕ → ℕ → List ℕ → List Bool → Option Record
awaiting place moment number text awaited =
    if list_all not awaited then None else Some (record { place = place; number = number; moment = moment; frame = text; awaited = awaited })

-- what a window is told of a frame that came to a segment by way of a place, where each segment sends frames out at these ports:
-- it may leave by all of them but the one where it came in. Nothing of what was refused before
abbrev pub brought : (ℕ → List Bool) → ℕ → ℕ → ℕ → Result Arrival Refused → Option Record
brought sends_at place moment number (Ok x) = awaiting place moment number (text_of x.frame) (set (sends_at x.vid) place false)
brought sends_at place moment number (Err refused) = None
