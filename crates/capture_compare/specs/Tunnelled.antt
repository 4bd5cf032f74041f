-- What a packet carries in a tunnel, whoever it is for (RFC 768; RFC 791, 3.1; RFC 8200, 3; RFC 7348, 5; RFC 8926, 3.4).
--     kind_at      the kind of a tunnel, by its port
--     is_taken     whether a UDP checksum is one that is passed over
--     tunnelled    what a packet carries, where it is one of a tunnel
--     tunnelled_whole    the same where it may be cut
use Rattle.std.specs.Prelude.{ℕ, ◌==◌, ◌||◌, not, is_some, if◌then◌else◌, Bool, true, false, List, [], Option, Some, None}
use Rattle.wire.specs.Octets.{part}
use Rattle.wire.specs.First.{first}
use Rattle.wire.specs.declared.ip_udp.addr.Addr.{Addr}
use Rattle.wire.specs.declared.ip_udp.addr.Tunnel.{Tunnel}
use Rattle.wire.specs.declared.ip_udp.addr.Tunnel.TheVariants.{Vxlan, Geneve}
use Rattle.wire.specs.Udp.{data_of, dport, is_bad_udp}
use Rattle.wire.specs.declared.ip_udp.udp_view.SumState.{SumState}
use Rattle.wire.specs.declared.ip_udp.udp_view.SumState.TheVariants.{Zero, Right, Partial, Wrong}
use Rattle.wire.specs.GeneveReading.{options_length}
use Rattle.decapsulate.specs.Arrival.{Packet, frame_reasons, inner_of, packet_in, sum_of, tunnel_reasons, vni_of}
use Rattle.capture_compare.specs.declared.carried.tunnels.Tunnels.{Tunnels}

-- the kind of tunnel whose datagrams go to a port: VXLAN's (RFC 7348, 5) or Geneve's (RFC 8926, 3.3)
abbrev pub kind_at : Tunnels → ℕ → Option Tunnel
kind_at T port = if port == T.vxlan_port then Some Vxlan else (if port == T.geneve_port then Some Geneve else None)

-- a datagram is taken whose UDP checksum says this: there is none, or it is right (RFC 768; over IPv6 RFC 8200, 8.1), or it is
-- left to the sender's card, where such are taken. A wrong one isn't
abbrev pub is_taken : Tunnels → SumState → Bool
is_taken T Zero = true
is_taken T Right = true
is_taken T Partial = T.partial
is_taken T Wrong = false

-- the kind of tunnel whose datagram a packet has, where its checksum is taken
abbrev pub kind_in : Tunnels → Packet → Option Tunnel
kind_in T p = if is_taken T (sum_of p) then kind_at T (dport p.payload) else None

-- what a tunnel carries: its kind, who sent it and to whom, the network's number (VNI), the texts of the options of Geneve, and
-- the inner text. Nothing else that stands in the headers is in it
pub record Tunnelled : Type 0 where
  pub kind : Tunnel
  pub source : Addr
  pub destination : Addr
  pub vni : ℕ
  pub options : List ℕ
  pub inner : List ℕ

-- the texts of the options in a header of a kind: VXLAN has none, those of Geneve stand behind the first 8 octets
abbrev pub options_of : Tunnel → List ℕ → List ℕ
options_of Vxlan d = []
options_of Geneve d = part 8 (options_length d) d

-- what these data carry, from one address to another, at the port of a kind: nothing where they have no header of that kind, or
-- one with a critical option that isn't known
abbrev pub carried_by : List (ℕ × ℕ) → Tunnel → Addr → Addr → List ℕ → Option Tunnelled
carried_by known kind source destination d =
    if is_some (first (tunnel_reasons known kind d))
    then None
    else Some (record {
      kind = kind;
      source = source;
      destination = destination;
      vni = vni_of kind d;
      options = options_of kind d;
      inner = inner_of kind d;
    })

-- what they carry at a port, which may be no tunnel's
abbrev pub carried_at : List (ℕ × ℕ) → Option Tunnel → Addr → Addr → List ℕ → Option Tunnelled
carried_at known None source destination d = None
carried_at known (Some kind) source destination d = carried_by known kind source destination d

-- an IP packet has no whole datagram: it is a fragment, has another protocol, or its payload is none
abbrev pub has_no_datagram : Packet → Bool
has_no_datagram p = (p.is_fragment || not (p.protocol == 17)) || is_bad_udp p.payload

-- what an IP packet carries
abbrev pub carried_in : Tunnels → Packet → Option Tunnelled
carried_in T p =
    if has_no_datagram p
    then None
    else carried_at T.known (kind_in T p) p.source p.destination (data_of p.payload)

-- what a packet of the underlay carries in a tunnel, if it is one of a tunnel: a frame, at most two tags, IPv4 with a right sum
-- or IPv6, UDP with a checksum that is taken, and the tunnel's header
abbrev pub tunnelled : Tunnels → List ℕ → Option Tunnelled
tunnelled T b = if is_some (first (frame_reasons b)) then None else carried_in T (packet_in b)

-- the same of a packet of which so many octets are missing: one that is cut is none of a tunnel
abbrev pub tunnelled_whole : Tunnels → ℕ → List ℕ → Option Tunnelled
tunnelled_whole T missing b = if missing == 0 then tunnelled T b else None
