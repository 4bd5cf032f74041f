-- Which frames hold a datagram whose checksum is left to the card, layer by layer.
use Rattle.std.proofs.Common.{◌≡◌, ℕ, Bool, true, false, not, ◌&&◌, ◌==◌, List, [], ◌∷◌, ◌++◌, Option, Some, None, refl, sym, ap, ◌∙◌, inl, inr}
use Rattle.std.specs.Prelude.{◌⊎◌, is_none}
use Rattle.std.proofs.lemmas.Bool.{eq-eqb, ne_eqb}
use Rattle.wire.specs.First.{first}
use Rattle.wire.specs.declared.ether.reason.Reason.{Reason}
use Rattle.wire.specs.declared.ether.reason.Reason.TheVariants.{Fragment, NotUdp, BadUdp}
use Rattle.wire.proofs.FirstLemmas.{first-append}
use Rattle.wire.specs.IpParts.{Parts}
use Rattle.wire.specs.Datagram.{datagram_reasons}
use Rattle.wire.specs.Udp.{SplitsUdp, is_bad_udp, is_partial, sum_state}
use Rattle.wire.proofs.UdpLemmas.{only-udp}
use Rattle.decapsulate.specs.Arrival.{Packet, packet_in, sum_of, frame_reasons}
use Rattle.decapsulate.specs.Card.{is_left_to_card}
use Rattle.decapsulate.proofs.PacketLemmas.{sum_of-parts}
use Rattle.decapsulate.proofs.ReasonsLemmas.{first-front}

-- why a packet holds no datagram
abbrev pub carrier_reasons : Packet → List (Reason × Bool)
carrier_reasons p = (Fragment, p.is_fragment) ∷ (NotUdp, not (p.protocol == 17)) ∷ (BadUdp, is_bad_udp p.payload) ∷ []

refused : (b : List ℕ) (reason : Reason) → first (datagram_reasons b) ≡ Some reason → false ≡ is_left_to_card b
refused b reason h = sym (ap (λ (o : Option Reason). is_none o && is_partial (sum_of (packet_in b))) h)

-- what holds no packet
pub left-none : (b : List ℕ) (reason : Reason) → first (frame_reasons b) ≡ Some reason → false ≡ is_left_to_card b
left-none b reason h = refused b reason (first-front (frame_reasons b) (carrier_reasons (packet_in b)) reason h)

-- a fragment, or a packet that carries something else
pub left-other : (b : List ℕ) → first (frame_reasons b) ≡ None
    → ((packet_in b).is_fragment ≡ true) ⊎ (((packet_in b).is_fragment ≡ false) × ((packet_in b).protocol ≡ 17 → ⊥))
    → false ≡ is_left_to_card b
left-other b h (inl part) = refused b Fragment (first-append (frame_reasons b) (carrier_reasons (packet_in b)) h ∙ rw part refl)
left-other b h (inr other) =
    refused b NotUdp (first-append (frame_reasons b) (carrier_reasons (packet_in b)) h ∙ rw (other.0, ne_eqb (packet_in b).protocol 17 other.1) refl)

-- a whole packet of UDP, with a datagram and a tail in it
pub left-datagram : (b : List ℕ) (p : Packet) (v : Parts) → first (frame_reasons b) ≡ None → p ≡ packet_in b → p.is_fragment ≡ false → p.protocol ≡ 17
    → SplitsUdp p.payload v → is_partial (sum_state p.source p.destination (v.head ++ v.payload)) ≡ is_left_to_card b
left-datagram b p v h is whole udp split =
    let found = packet_in b in
    let not_part : found.is_fragment ≡ false = ap (λ (q : Packet). q.is_fragment) (sym is) ∙ whole in
    let by_udp : found.protocol ≡ 17 = ap (λ (q : Packet). q.protocol) (sym is) ∙ udp in
    let good : is_bad_udp found.payload ≡ false = ap (λ (q : Packet). is_bad_udp q.payload) (sym is) ∙ (only-udp p.payload v split).0 in
    let none : first (datagram_reasons b) ≡ None =
    first-append (frame_reasons b) (carrier_reasons found) h ∙ rw (not_part, eq-eqb found.protocol 17 by_udp, good) refl in
    ap is_partial (sum_of-parts p v split)
    ∙ ap (λ (q : Packet). is_partial (sum_of q)) is
    ∙ sym (ap (λ (o : Option Reason). is_none o && is_partial (sum_of found)) none)
