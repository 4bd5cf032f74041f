-- The flow that a frame belongs to, and the UDP source port by it, so that routers spread flows over their ways (RFC 7348,
-- 5; RFC 8926, 3.3).
use Rattle.std.specs.Prelude.{ℕ, ◌+◌, ◌%◌, ◌==◌, ◌&&◌, ◌||◌, nat_le, Bool, not, if◌then◌else◌, List, length, take, drop}
use Rattle.wire.specs.Octets.{part}
use Rattle.wire.specs.Sum.{total, folded}
use Rattle.wire.specs.Frame.{Frame}
use Rattle.wire.specs.Addr.{address}
use Rattle.wire.specs.Datagram.{has_type}
use Rattle.wire.specs.Ip.{Family, Ip4, Ip6, version, ihl, header_length, is_fragment, protocol, source, destination}

-- TCP and UDP, whose headers begin with two ports of two octets each
abbrev pub has_ports : ℕ → Bool
has_ports protocol = protocol == 6 || protocol == 17

-- a text begins with a whole IP header and the ports behind it, of a packet that is no fragment; lengths and checksums
-- that it tells aren't looked at
abbrev pub shows_ports : Family → List ℕ → Bool
shows_ports Ip4 r =
    nat_le 20 (length r) && version r == 4 && nat_le 5 (ihl r) && nat_le (header_length Ip4 r + 4) (length r)
    && not (is_fragment Ip4 r) && has_ports (protocol Ip4 r)
shows_ports Ip6 r = nat_le 44 (length r) && version r == 6 && has_ports (protocol Ip6 r)

-- the sum of the words of both addresses, the protocol and both ports
abbrev pub ports_sum : Family → List ℕ → ℕ
ports_sum f r = total (address (source f r)) + total (address (destination f r)) + protocol f r + total (part (header_length f r) 4 r)

-- a body begins with the type of a family, and shows the ports of a flow behind it
abbrev pub shows_flow : Family → List ℕ → Bool
shows_flow f body = has_type f body && shows_ports f (drop 2 body)

-- what a body adds to the sum of its frame's addresses and type
abbrev pub inner_sum : List ℕ → ℕ
inner_sum body =
    if shows_flow Ip4 body then ports_sum Ip4 (drop 2 body)
    else if shows_flow Ip6 body then ports_sum Ip6 (drop 2 body)
    else 0

-- the one's complement sum of a frame's addresses and type, and of the addresses, protocol and ports inside
abbrev pub flow_hash : Frame → ℕ
flow_hash f = folded (total f.dst + total f.src + total (take 2 f.body) + inner_sum f.body)

-- a port of the dynamic range, 49152 to 65535
abbrev pub source_port : Frame → ℕ
source_port f = 49152 + flow_hash f % 16384
