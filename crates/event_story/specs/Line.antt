-- How a fact is printed. It states no standard. One line, begun by two spaces; as
--       ether 02:00:00:00:00:01 > 02:00:00:00:00:02
--       port p1 up
--       source learned at p2, before at p1 seen at 5000000000
use Rattle.std.specs.Prelude.{ℕ, ◌==◌, if◌then◌else◌, List, [], ◌∷◌, ◌++◌, codes, decimal, Option, Some, None}
use Rattle.std.specs.List.{flat_map}
use Rattle.wire.specs.Reason.{name_of}
use Rattle.wire.specs.declared.ether.reason.Reason.{Reason}
use Rattle.wire.specs.declared.ip_udp.addr.Tunnel.{Tunnel}
use Rattle.filter_db.specs.declared.entry.Entry.{Entry}
use Rattle.filter_db.specs.declared.place.Place.{Place}
use Rattle.filter_db.specs.declared.place.Place.TheVariants.{Remote}
use Rattle.endpoint_core.specs.Text.{addr_text}
use Rattle.change_story.specs.Words.{mac_text, place_text, port_text, up_word, tunnel_word, group_word, destination_word}
use Rattle.change_story.specs.Words.{origin_word, member_word, egress_word, receiver_word, sum_word, listed_word, stood_text}
use Rattle.event_story.specs.declared.fact.Fact.{Fact}
use Rattle.event_story.specs.declared.fact.Fact.TheVariants as facts

-- ---- values

-- where a source is learned, and what stood for it
abbrev pub learned_text : Place → Option Entry → List ℕ
learned_text place None = codes "source new at " ++ place_text place
learned_text place (Some s) = codes "source learned at " ++ place_text place ++ codes ", before at " ++ stood_text s

-- where a destination stands
abbrev pub known_text : Option Entry → List ℕ
known_text None = codes "destination unknown, flooded"
known_text (Some s) = codes "destination at " ++ stood_text s

-- why a packet isn't sent
abbrev pub unsent_text : Option Reason → List ℕ
unsent_text None = []
unsent_text (Some reason) = codes ", not sent " ++ name_of reason

-- how long a packet is, and how long it may be
abbrev pub length_text : ℕ → ℕ → List ℕ
length_text packet mtu = codes ", packet " ++ decimal packet ++ codes " of at most " ++ decimal mtu

-- the kind of tunnels at a port
abbrev pub tunnel_port_text : Option Tunnel → List ℕ
tunnel_port_text None = codes "port of no tunnel"
tunnel_port_text (Some kind) = codes "port of " ++ tunnel_word kind

-- the port of a number, or those from one number to another
abbrev pub ports_text : ℕ → ℕ → List ℕ
ports_text first last = if first == last then port_text first else codes "ports p" ++ decimal first ++ codes "-p" ++ decimal last

-- ---- lines

-- what a test saw
abbrev pub words : Fact → List ℕ
words (facts.Length octets most) = codes "length " ++ decimal octets ++ codes ", at most " ++ decimal most
words (facts.Captured octets original) = codes "captured " ++ decimal octets ++ codes " of " ++ decimal original
words (facts.Short octets) = codes "octets " ++ decimal octets ++ codes ", fewer than 14"
words (facts.Ether source destination) = codes "ether " ++ mac_text source ++ codes " > " ++ mac_text destination
words (facts.Source group) = codes "source " ++ group_word group
words (facts.Destination group reserved) = codes "destination " ++ destination_word group reserved
words (facts.Port port up) = port_text port ++ codes " " ++ up_word up
words (facts.Tag vid pcp dei) =
    codes "tag vid " ++ decimal vid ++ codes " pcp " ++ decimal pcp ++ codes " dei " ++ (if dei then codes "1" else codes "0")
words facts.NoTag = codes "no tag"
words facts.CutTag = codes "tag cut short"
words facts.ReservedVid = codes "vid 4095 reserved"
words (facts.Accepts port tagged taken) =
    port_text port ++ (if taken then codes " takes " else codes " refuses ")
    ++ (if tagged then codes "frames with a vid" else codes "frames without a vid")
words (facts.Segment vid by_tag) = codes "segment " ++ decimal vid ++ codes " by the vid of " ++ origin_word by_tag
words (facts.NoSegment vid by_tag) = codes "no segment " ++ decimal vid ++ codes " by the vid of " ++ origin_word by_tag
words (facts.Member port egress) = port_text port ++ member_word egress
words facts.NotIp = codes "neither ip4 nor ip6"
words facts.BadIp = codes "ip header cut, or a length wrong"
words facts.BadIpSum = codes "ip4 header checksum wrong"
words (facts.Ip source destination) = codes "ip " ++ addr_text source ++ codes " > " ++ addr_text destination
words (facts.Sender other) = if other then codes "sender another endpoint" else codes "sender no other endpoint"
words (facts.Receiver group own) = receiver_word group own
words facts.Fragment = codes "fragment"
words (facts.Protocol number) = codes "protocol " ++ decimal number
words facts.BadUdp = codes "udp header cut, or its length wrong"
words (facts.Udp source destination) = codes "udp " ++ decimal source ++ codes " > " ++ decimal destination
words (facts.TunnelPort kind) = tunnel_port_text kind
words facts.NoSum = codes "no udp checksum over ip6"
words (facts.Sum state) = codes "udp checksum " ++ sum_word state
words (facts.Header kind reason) = tunnel_word kind ++ codes " header " ++ name_of reason
words (facts.Vni kind vni segment) = tunnel_word kind ++ codes " vni " ++ decimal vni ++ codes " of segment " ++ decimal segment
words (facts.NoVni kind vni) = tunnel_word kind ++ codes " vni " ++ decimal vni ++ codes " of no segment"
words (facts.Group listed) = codes "group" ++ listed_word listed
words (facts.Peer listed) = codes "sender" ++ listed_word listed
words facts.AnyPeer = codes "any sender"
words facts.InnerTag = codes "inner tag, which the segment drops"
words facts.NotLearning = codes "source not learned, learning is off"
words (facts.Learned place stood) = learned_text place stood
words (facts.Fixed stood) = codes "source not learned, it is at " ++ stood_text stood
words (facts.Full limit) = codes "source not learned, the table has its limit of " ++ decimal limit
words facts.ToGroup = codes "destination a group, flooded"
words (facts.Known stood) = known_text stood
words (facts.Dead stood since) =
    codes "destination dead since " ++ decimal since ++ codes ", before at " ++ stood_text stood ++ codes ", flooded"
words (facts.Same place) = place_text place ++ codes " is where it came from"
words (facts.Horizon place) = place_text place ++ codes " is of the sender's horizon group"
words (facts.Shut place) = place_text place ++ codes " down, or no member"
words (facts.PortsDown first last) = ports_text first last ++ codes " down"
words (facts.NoMembers first last) = ports_text first last ++ codes " no member"
words facts.Nobody = codes "nobody to flood to"
words (facts.AtPort port egress) = codes "out p" ++ decimal port ++ egress_word egress
words (facts.InTunnel kind addr vni hop packet mtu reason) =
    codes "out " ++ place_text (Remote kind addr) ++ codes " vni " ++ decimal vni
    ++ codes " next hop " ++ mac_text hop ++ length_text packet mtu ++ unsent_text reason

-- a line of its own
abbrev pub fact_line : Fact → List ℕ
fact_line fact = codes "  " ++ words fact ++ 10 ∷ []

-- all of them
abbrev pub facts_text : List Fact → List ℕ
facts_text fs = flat_map fact_line fs
