-- The kind of a tunnel, by what is read of the datagram.
use Rattle.std.proofs.Common.{◌≡◌, ◌∙◌, Bool, true, false, ◌++◌, Option, None, refl, sym, ap}
use Rattle.std.specs.Prelude.{if◌then◌else◌}
use Rattle.wire.specs.declared.ip_udp.addr.Tunnel.{Tunnel}
use Rattle.wire.specs.IpParts.{Parts}
use Rattle.wire.specs.Udp.{SplitsUdp, dport, sum_state}
use Rattle.wire.proofs.UdpLemmas.{ReadsAs-from}
use Rattle.decapsulate.specs.Arrival.{Packet, sum_of}
use Rattle.decapsulate.proofs.PacketLemmas.{sum_of-parts}
use Rattle.capture_compare.specs.Tunnelled.{is_taken, kind_at, kind_in}
use Rattle.capture_compare.specs.declared.carried.tunnels.Tunnels.{Tunnels}

none-either : (q : Bool) (o : Option Tunnel) → o ≡ None → (if q then o else None) ≡ None
none-either true o h = h
none-either false o h = refl

pub kind-none : (T : Tunnels) (p : Packet) (v : Parts) → SplitsUdp p.payload v → kind_at T (dport v.head) ≡ None → kind_in T p ≡ None
kind-none T p v split none = none-either (is_taken T (sum_of p)) (kind_at T (dport p.payload)) (ap (kind_at T) (ReadsAs-from p.payload v split).dport_is ∙ none)

pub kind-by : (T : Tunnels) (p : Packet) (v : Parts) (q : Bool) (o : Option Tunnel) → SplitsUdp p.payload v → kind_at T (dport v.head) ≡ o → q ≡ is_taken T (sum_state p.source p.destination (v.head ++ v.payload))
    → (if q then o else None) ≡ kind_in T p
kind-by T p v q o split port is =
    ap (λ (b : Bool). if b then o else None) (is ∙ ap (is_taken T) (sum_of-parts p v split))
    ∙ ap (λ (k : Option Tunnel). if is_taken T (sum_of p) then k else None) (sym (ap (kind_at T) (ReadsAs-from p.payload v split).dport_is ∙ port))
