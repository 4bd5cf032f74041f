-- How a frame at a local port comes to a segment, test by test (IEEE 802.1Q, 6.9 and 8.6).
use Rattle.std.specs.Prelude.{ℕ, not, if◌then◌else◌, List, [], ◌∷◌, ◌++◌, length, Option, Some, None, Result}
use Rattle.std.specs.Option.{option_map}
use Rattle.wire.specs.declared.ether.reason.Reason.{Reason}
use Rattle.wire.specs.declared.ether.reason.Reason.TheVariants.{TooLong, Sliced, Runt, PortDown, BadSource, Reserved}
use Rattle.wire.specs.declared.ether.reason.Reason.TheVariants.{CutTag, BadVid, FrameType, NoSegment, NotMember, InnerTag}
use Rattle.wire.specs.declared.ether.reason.Refused.{Refused}
use Rattle.overlay.specs.Ingress.{local_reasons, segment_vid}
use Rattle.overlay.specs.Ports.{Ports, port_at, is_up, egress_at}
use Rattle.overlay.specs.Overlay.{Overlay}
use Rattle.endpoint_core.specs.Arrival.{came_at}
use Rattle.endpoint_core.specs.Arrival.{Arrival}
use Rattle.event_story.specs.Ether.{header_fact, source_fact, destination_fact, tag_fact, vid_in, has_vid}
use Rattle.endpoint_core.specs.Among.{segment_of}
use Rattle.event_story.specs.Tests.{refusal_of, refuses, told}
use Rattle.event_story.specs.declared.fact.Fact.{Fact}
use Rattle.event_story.specs.declared.fact.Fact.TheVariants as facts

-- the tests in their order
abbrev pub local_tests : List Reason
local_tests = TooLong ∷ Sliced ∷ local_reasons ++ InnerTag ∷ []

-- the VID of a frame at a port: that of its tag, or the port's
abbrev pub vid_at : Ports → ℕ → List ℕ → ℕ
vid_at s port b = segment_vid (port_at s port).pvid (vid_in b)

-- the segment of that VID, if there is one
abbrev pub segment_fact : Ports → ℕ → List ℕ → Option ℕ → Fact
segment_fact s port b None = facts.NoSegment (vid_at s port b) (has_vid b)
segment_fact s port b (Some vid) = facts.Segment vid (has_vid b)

-- the port among the members of that segment
abbrev pub member_fact : Ports → ℕ → ℕ → Fact
member_fact s port vid = facts.Member port (egress_at s vid port)

-- what a test saw of octets at a port that came so to a segment, or to none
abbrev pub local_fact : Ports → ℕ → ℕ → List ℕ → Result Arrival Refused → Reason → Option Fact
local_fact s port original b came TooLong = Some (facts.Length (length b) 65535)
local_fact s port original b came Sliced = Some (facts.Captured (length b) original)
local_fact s port original b came Runt = Some (header_fact b)
local_fact s port original b came PortDown = Some (facts.Port port (is_up s port))
local_fact s port original b came BadSource = source_fact b
local_fact s port original b came Reserved = destination_fact b
local_fact s port original b came CutTag = tag_fact b
local_fact s port original b came BadVid = if refuses (refusal_of came) BadVid then Some facts.ReservedVid else None
local_fact s port original b came FrameType = Some (facts.Accepts port (has_vid b) (not (refuses (refusal_of came) FrameType)))
local_fact s port original b came NoSegment = Some (segment_fact s port b (segment_of came))
local_fact s port original b came NotMember = option_map (member_fact s port) (segment_of came)
local_fact s port original b came InnerTag = if refuses (refusal_of came) InnerTag then Some facts.InnerTag else None
local_fact s port original b came _ = None

-- what the tests saw of a frame that came so
abbrev pub local_facts_of : Ports → ℕ → ℕ → List ℕ → Result Arrival Refused → List Fact
local_facts_of s port original b came = told (local_fact s port original b came) (refusal_of came) local_tests

-- what the tests saw of octets at a local port
abbrev pub local_facts : Ports → Overlay → ℕ → ℕ → List ℕ → List Fact
local_facts s overlay port original b = local_facts_of s port original b (came_at s overlay port original b)
