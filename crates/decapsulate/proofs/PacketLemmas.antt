-- How the packet in a frame is read.
use Rattle.std.proofs.Common.{◌≡◌, ℕ, Bool, true, false, List, [], ◌∷◌, ◌++◌, Some, option_map, refl, sym, ap, ◌∙◌}
use Rattle.std.specs.Prelude.{is_none}
use Rattle.wire.specs.First.{first}
use Rattle.wire.specs.declared.ether.reason.Reason.{Reason}
use Rattle.wire.specs.declared.ip_udp.addr.Addr.{Addr}
use Rattle.wire.specs.declared.ip_udp.addr.Tunnel.{Tunnel}
use Rattle.wire.specs.declared.ip_udp.udp_view.SumState.{SumState}
use Rattle.wire.specs.IpParts.{Parts}
use Rattle.wire.specs.Ip.{Family, SplitsIp, packet_parts, source, destination, is_fragment, protocol}
use Rattle.wire.specs.Udp.{dport, SplitsUdp, sum_state}
use Rattle.wire.proofs.IpLemmas.{ReadsAs-from}
use Rattle.wire.proofs.UdpLemmas.{only-udp, datagram-split, ReadsAs-from as UdpReadsAs-from}
use Rattle.overlay.specs.declared.underlay.settings.Underlay.{Underlay}
use Rattle.overlay.specs.UnderlaySettings.{kind_at}
use Rattle.decapsulate.specs.Arrival.{Packet, packet_at, packet_of, kind_to, sum_of, as_reasons, sum_reasons, datagram_reasons}

-- what is read of the parts of a text is read of the text
pub packet_at-parts : (f : Family) (r : List ℕ) (v : Parts) (src dst : Addr) (part : Bool) (kind : ℕ) (p : List ℕ) → SplitsIp f r v → v ≡ packet_parts f r
    → src ≡ source f v.head → dst ≡ destination f v.head → part ≡ is_fragment f v.head → kind ≡ protocol f v.head → p ≡ v.payload
    → record { source = src; destination = dst; is_fragment = part; protocol = kind; payload = p } ≡ packet_at f r
packet_at-parts f r v src dst part kind p split parts src_is dst_is part_is kind_is p_is =
    let reads = ReadsAs-from f r v split in
    let Make : Addr → Addr → Bool → ℕ → List ℕ → Packet = λ a b c d e. record { source = a; destination = b; is_fragment = c; protocol = d; payload = e } in
    ap (λ (x : Addr). Make x dst part kind p) (src_is ∙ sym reads.source_is)
    ∙ ap (λ (x : Addr). Make (source f r) x part kind p) (dst_is ∙ sym reads.destination_is)
    ∙ ap (λ (x : Bool). Make (source f r) (destination f r) x kind p) (part_is ∙ sym reads.fragment_is)
    ∙ ap (λ (x : ℕ). Make (source f r) (destination f r) (is_fragment f r) x p) (kind_is ∙ sym reads.protocol_is)
    ∙ ap (λ (x : List ℕ). Make (source f r) (destination f r) (is_fragment f r) (protocol f r) x) (p_is ∙ ap (λ (w : Parts). w.payload) parts)

-- the packet of these parts is that of the text
pub packet_of-parts : (f : Family) (r : List ℕ) (g : Family) (v : Parts) → g ≡ f → v ≡ packet_parts f r → SplitsIp f r v → packet_of g v ≡ packet_at f r
packet_of-parts f r g v family_is parts split =
    ap (λ (x : Family). packet_of x v) family_is
    ∙ packet_at-parts f r v (source f v.head) (destination f v.head) (is_fragment f v.head) (protocol f v.head) v.payload split parts refl refl refl refl refl

by_test : {A : Type 0} (reason_of : A → Reason) (fault : A) (b : Bool) (faults : List (A × Bool)) → first (as_reasons reason_of faults) ≡ option_map reason_of (first faults)
    → first (as_reasons reason_of ((fault, b) ∷ faults)) ≡ option_map reason_of (first ((fault, b) ∷ faults))
by_test reason_of fault true faults h = refl
by_test reason_of fault false faults h = h

-- the first of a table of faults, as a reason
pub first-as_reasons : {A : Type 0} (reason_of : A → Reason) (faults : List (A × Bool)) → first (as_reasons reason_of faults) ≡ option_map reason_of (first faults)
first-as_reasons reason_of [] = refl
first-as_reasons reason_of (row ∷ faults) = by_test reason_of row.0 row.1 faults (first-as_reasons reason_of faults)

-- what the checksum of a datagram says, by its parts
pub sum_of-parts : (p : Packet) (v : Parts) → SplitsUdp p.payload v → sum_state p.source p.destination (v.head ++ v.payload) ≡ sum_of p
sum_of-parts p v split = ap (sum_state p.source p.destination) (sym (datagram-split p.payload v split))

-- where a packet holds a datagram to a tunnel port, its checksum alone is a reason against it
pub datagram-sum : (U : Underlay) (p : Packet) (v : Parts) (kind : Tunnel) → SplitsUdp p.payload v → kind_at U (dport v.head) ≡ Some kind
    → first (sum_reasons U p.source (sum_state p.source p.destination (v.head ++ v.payload))) ≡ first (datagram_reasons U p)
datagram-sum U p v kind split port =
    let good = (only-udp p.payload v split).0 in
    let at_port : kind_to U p ≡ Some kind = ap (kind_at U) (UdpReadsAs-from p.payload v split).dport_is ∙ port in
    let state = ap (λ (s : SumState). first (sum_reasons U p.source s)) (sum_of-parts p v split) in
    rw (good, ap is_none at_port) state
