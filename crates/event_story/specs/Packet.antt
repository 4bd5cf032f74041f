-- How a packet of the underlay comes to a segment, test by test (RFC 7348, 4 and 5; RFC 8926, 3).
use Rattle.std.specs.Prelude.{ℕ, not, is_none, if◌then◌else◌, List, [], ◌∷◌, ◌++◌, length, Option, Some, None, Result}
use Rattle.std.specs.Option.{option_map, option_and_then}
use Rattle.wire.specs.First.{first}
use Rattle.wire.specs.declared.ether.reason.Reason.{Reason}
use Rattle.wire.specs.declared.ether.reason.Reason.TheVariants.{TooLong, Sliced, Runt, NotIp, BadIp, BadIpSum, BadOuterSource}
use Rattle.wire.specs.declared.ether.reason.Reason.TheVariants.{NotForUs, Fragment, NotUdp, BadUdp, NotTunnel, ZeroSum}
use Rattle.wire.specs.declared.ether.reason.Reason.TheVariants.{BadUdpSum, ShortTunnel, NoVniFlag, BadVersion, Control}
use Rattle.wire.specs.declared.ether.reason.Reason.TheVariants.{NotEthernet, BadOptions, CriticalOption, UnknownVni, WrongGroup}
use Rattle.wire.specs.declared.ether.reason.Reason.TheVariants.{UnknownPeer, InnerRunt, BadSource, Reserved, InnerTag}
use Rattle.wire.specs.declared.ether.reason.Refused.{Refused}
use Rattle.wire.specs.declared.ip_udp.addr.Tunnel.{Tunnel}
use Rattle.wire.specs.declared.ip_udp.addr.Tunnel.TheVariants.{Vxlan, Geneve}
use Rattle.wire.specs.Addr.{is_group}
use Rattle.wire.specs.IpParts.{Parts}
use Rattle.wire.specs.Udp.{sport, dport, udp_faults, udp_parts, sum_state}
use Rattle.wire.specs.VxlanReading.{vxlan_faults, vxlan_vni, vxlan_inner}
use Rattle.wire.specs.GeneveReading.{geneve_faults, geneve_vni, geneve_inner}
use Rattle.overlay.specs.declared.underlay.segment.Segment.{Segment}
use Rattle.overlay.specs.declared.underlay.settings.Underlay.{Underlay}
use Rattle.overlay.specs.Overlay.{Overlay, segment_at, is_listed}
use Rattle.overlay.specs.UnderlaySettings.{is_own, kind_at}
use Rattle.decapsulate.specs.Arrival.{Packet, packet_in, frame_reasons}
use Rattle.endpoint_core.specs.Arrival.{came_by}
use Rattle.endpoint_core.specs.Arrival.{Arrival}
use Rattle.event_story.specs.Carried.{Carried}
use Rattle.event_story.specs.Ether.{header_fact, source_fact, destination_fact, tag_fact}
use Rattle.endpoint_core.specs.Among.{segment_of}
use Rattle.event_story.specs.Tests.{refusal_of, refuses, told}
use Rattle.event_story.specs.declared.fact.Fact.{Fact}
use Rattle.event_story.specs.declared.fact.Fact.TheVariants as facts

-- the tests in their order. Those of a Geneve header stand in another order there; none of them tells more than why it
-- refuses
abbrev pub packet_tests : List Reason
packet_tests =
    TooLong ∷ Sliced ∷ Runt ∷ NotIp ∷ BadIp ∷ BadIpSum ∷ BadOuterSource
    ∷ NotForUs ∷ Fragment ∷ NotUdp ∷ BadUdp ∷ NotTunnel ∷ ZeroSum ∷ BadUdpSum
    ∷ ShortTunnel ∷ NoVniFlag ∷ BadVersion ∷ Control ∷ NotEthernet ∷ BadOptions ∷ CriticalOption
    ∷ UnknownVni ∷ WrongGroup ∷ UnknownPeer ∷ InnerRunt ∷ BadSource ∷ Reserved ∷ InnerTag ∷ []

-- ---- what there is to read

-- the IP packet in a frame, where there is one
abbrev pub packet_if : List ℕ → Option Packet
packet_if b = if is_none (first (frame_reasons b)) then Some (packet_in b) else None

-- the datagram in it
abbrev pub datagram_if : List ℕ → Option Parts
datagram_if p = if is_none (first (udp_faults p)) then Some (udp_parts p) else None

-- what a tunnel header of a kind stands before: its VNI, and the text behind it
abbrev pub inner_if : List (ℕ × ℕ) → List ℕ → Tunnel → Option Carried
inner_if known d Vxlan =
    if is_none (first (vxlan_faults d)) then Some (record { kind = Vxlan; vni = vxlan_vni d; inner = vxlan_inner d }) else None
inner_if known d Geneve =
    if is_none (first (geneve_faults known d)) then Some (record { kind = Geneve; vni = geneve_vni d; inner = geneve_inner d }) else None

-- the datagram of a frame, with its packet
abbrev pub datagram_in : List ℕ → Option (Packet × Parts)
datagram_in b = option_and_then (λ p. option_map (λ d. (p, d)) (datagram_if p.payload)) (packet_if b)

-- the kind of tunnels at the port of a datagram
abbrev pub kind_of : Underlay → Packet × Parts → Option Tunnel
kind_of U found = kind_at U (dport found.1.head)

-- what stands in the tunnel
abbrev pub carried_by : Overlay → Packet × Parts → Option Carried
carried_by S found = option_and_then (inner_if S.underlay.known found.1.payload) (kind_of S.underlay found)

-- the same of a frame
abbrev pub carried_in : Overlay → List ℕ → Option Carried
carried_in S b = option_and_then (carried_by S) (datagram_in b)

-- ---- what each test saw

-- only a test that refuses has this to tell
abbrev pub if_refuses : Result Arrival Refused → Reason → Fact → Option Fact
if_refuses came test fact = if refuses (refusal_of came) test then Some fact else None

-- or else that
abbrev pub or_else : Result Arrival Refused → Reason → Fact → Option Fact → Option Fact
or_else came test fact otherwise = if refuses (refusal_of came) test then Some fact else otherwise

-- a tunnel header that is refused
abbrev pub header_fact_of : Overlay → List ℕ → Reason → Option Fact
header_fact_of S b test = option_map (λ kind. facts.Header kind test) (option_and_then (kind_of S.underlay) (datagram_in b))

-- the same of a test, where it is the one that refuses
abbrev pub header_refused : Overlay → List ℕ → Result Arrival Refused → Reason → Option Fact
header_refused S b came test = if refuses (refusal_of came) test then header_fact_of S b test else None

-- the segment of a VNI
abbrev pub vni_fact : Option ℕ → Carried → Fact
vni_fact None x = facts.NoVni x.kind x.vni
vni_fact (Some vid) x = facts.Vni x.kind x.vni vid

-- the addresses of a packet
abbrev pub ip_fact : Packet → Fact
ip_fact p = facts.Ip p.source p.destination

-- whose the destination is
abbrev pub receiver_fact : Underlay → Packet → Fact
receiver_fact U p = facts.Receiver (is_group p.destination) (is_own U p.destination)

-- the ports of a datagram
abbrev pub udp_fact : Packet × Parts → Fact
udp_fact found = facts.Udp (sport found.1.head) (dport found.1.head)

-- what its checksum says
abbrev pub sum_fact : Packet × Parts → Fact
sum_fact found = facts.Sum (sum_state found.0.source found.0.destination (found.1.head ++ found.1.payload))

-- whether the sender may send to a segment
abbrev pub peer_fact : Result Arrival Refused → Segment → Fact
peer_fact came g = if is_listed g then facts.Peer (not (refuses (refusal_of came) UnknownPeer)) else facts.AnyPeer

-- whether a group's packets are for a segment
abbrev pub group_fact : Result Arrival Refused → Packet → Option Fact
group_fact came p = if is_group p.destination then Some (facts.Group (not (refuses (refusal_of came) WrongGroup))) else None

-- what a test saw of a packet that came so to a segment, or to none
abbrev pub packet_fact : Overlay → ℕ → List ℕ → Result Arrival Refused → Reason → Option Fact
packet_fact S original b came TooLong = Some (facts.Length (length b) 65549)
packet_fact S original b came Sliced = Some (facts.Captured (length b) original)
packet_fact S original b came Runt = Some (header_fact b)
packet_fact S original b came NotIp = if_refuses came NotIp facts.NotIp
packet_fact S original b came BadIp = or_else came BadIp facts.BadIp (option_map ip_fact (packet_if b))
packet_fact S original b came BadIpSum = if_refuses came BadIpSum facts.BadIpSum
packet_fact S original b came BadOuterSource = Some (facts.Sender (not (refuses (refusal_of came) BadOuterSource)))
packet_fact S original b came NotForUs = option_map (receiver_fact S.underlay) (packet_if b)
packet_fact S original b came Fragment = if_refuses came Fragment facts.Fragment
packet_fact S original b came NotUdp = option_map (λ p. facts.Protocol p.protocol) (packet_if b)
packet_fact S original b came BadUdp = or_else came BadUdp facts.BadUdp (option_map udp_fact (datagram_in b))
packet_fact S original b came NotTunnel = option_map (λ found. facts.TunnelPort (kind_of S.underlay found)) (datagram_in b)
packet_fact S original b came ZeroSum = if_refuses came ZeroSum facts.NoSum
packet_fact S original b came BadUdpSum = option_map sum_fact (datagram_in b)
packet_fact S original b came UnknownVni = option_map (vni_fact (segment_of came)) (carried_in S b)
packet_fact S original b came WrongGroup = option_and_then (group_fact came) (packet_if b)
packet_fact S original b came UnknownPeer = option_map (peer_fact came) (option_and_then (segment_at S) (segment_of came))
packet_fact S original b came InnerRunt = option_map (λ x. header_fact x.inner) (carried_in S b)
packet_fact S original b came BadSource = option_and_then (λ x. source_fact x.inner) (carried_in S b)
packet_fact S original b came Reserved = option_and_then (λ x. destination_fact x.inner) (carried_in S b)
packet_fact S original b came InnerTag = or_else came InnerTag facts.InnerTag (option_and_then (λ x. tag_fact x.inner) (carried_in S b))
packet_fact S original b came test = header_refused S b came test

-- what the tests saw of a packet that came so
abbrev pub packet_facts_of : Overlay → ℕ → List ℕ → Result Arrival Refused → List Fact
packet_facts_of S original b came = told (packet_fact S original b came) (refusal_of came) packet_tests

-- what the tests saw of a packet
abbrev pub packet_facts : Overlay → ℕ → List ℕ → List Fact
packet_facts S original b = packet_facts_of S original b (came_by S original b)
