-- The first reason of the tables of all layers, by that of each layer.
use Rattle.std.proofs.Common.{◌≡◌, Bool, true, false, List, [], ◌∷◌, ◌++◌, ℕ, Option, Some, None, ap, ◌∙◌}
use Rattle.wire.specs.First.{first}
use Rattle.wire.specs.declared.ether.reason.Reason.{Reason}
use Rattle.wire.proofs.FirstLemmas.{first-append}
use Rattle.wire.specs.declared.ip_udp.addr.Tunnel.{Tunnel}
use Rattle.wire.specs.Udp.{data_of}
use Rattle.overlay.specs.Overlay.{Overlay}
use Rattle.overlay.specs.declared.underlay.settings.Underlay.{Underlay}
use Rattle.decapsulate.specs.Arrival.{Packet, packet_in, kind_to, frame_reasons, packet_reasons, datagram_reasons, data_reasons, tunnel_reasons, carried_reasons, outer_reasons}

-- the first that holds, where it is one of those in front
pub first-front : {A : Type 0} (rows others : List (A × Bool)) (x : A) → first rows ≡ Some x → first (rows ++ others) ≡ Some x
first-front [] others x h = absurd cc
first-front (row ∷ rows) others x h = by_test row.0 row.1 rows others x (first-front rows others x) h
  where
    by_test : {A : Type 0} (y : A) (b : Bool) (rows others : List (A × Bool)) (x : A) → (first rows ≡ Some x → first (rows ++ others) ≡ Some x)
        → first ((y, b) ∷ rows) ≡ Some x → first (((y, b) ∷ rows) ++ others) ≡ Some x
    by_test y true rows others x k h = h
    by_test y false rows others x k h = k h

-- what is behind the tables of the first layers of a packet, one more each time
abbrev behind_datagram : Underlay → Packet → List (Reason × Bool)
behind_datagram U p = data_reasons U.known (kind_to U p) (data_of p.payload)

abbrev behind_packet : Underlay → Packet → List (Reason × Bool)
behind_packet U p = datagram_reasons U p ++ behind_datagram U p

pub carried-packet : (U : Underlay) (p : Packet) (reason : Reason) → first (packet_reasons U p) ≡ Some reason → first (carried_reasons U p) ≡ Some reason
carried-packet U p reason h = first-front (packet_reasons U p) (behind_packet U p) reason h

pub carried-datagram : (U : Underlay) (p : Packet) (reason : Reason) → first (packet_reasons U p) ≡ None → first (datagram_reasons U p) ≡ Some reason → first (carried_reasons U p) ≡ Some reason
carried-datagram U p reason c h =
    first-append (packet_reasons U p) (behind_packet U p) c
    ∙ first-front (datagram_reasons U p) (behind_datagram U p) reason h

pub carried-tunnel : (U : Underlay) (p : Packet) (kind : Tunnel) (reason : Option Reason) → first (packet_reasons U p) ≡ None → first (datagram_reasons U p) ≡ None
    → kind_to U p ≡ Some kind → first (tunnel_reasons U.known kind (data_of p.payload)) ≡ reason → first (carried_reasons U p) ≡ reason
carried-tunnel U p kind reason c d k h =
    first-append (packet_reasons U p) (behind_packet U p) c
    ∙ first-append (datagram_reasons U p) (behind_datagram U p) d
    ∙ ap (λ (o : Option Tunnel). first (data_reasons U.known o (data_of p.payload))) k
    ∙ h

-- and of a frame, with a packet in it
pub outer-frame : (S : Overlay) (b : List ℕ) (reason : Reason) → first (frame_reasons b) ≡ Some reason → first (outer_reasons S b) ≡ Some reason
outer-frame S b reason h = first-front (frame_reasons b) (carried_reasons S.underlay (packet_in b)) reason h

pub outer-carried : (S : Overlay) (b : List ℕ) (reason : Option Reason) → first (frame_reasons b) ≡ None → first (carried_reasons S.underlay (packet_in b)) ≡ reason → first (outer_reasons S b) ≡ reason
outer-carried S b reason f h = first-append (frame_reasons b) (carried_reasons S.underlay (packet_in b)) f ∙ h
