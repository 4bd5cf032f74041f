use Rattle.std.proofs.Common.{◌≡◌, true, false, sym, ◌∙◌, subst}
use Rattle.std.specs.Prelude.{◌⊎◌}
use Rattle.decapsulate.specs.Arrival.{Packet, packet_in}
use Rattle.decapsulate.proofs.CardLemmas.{left-none, left-other, left-datagram}
use Rattle.decapsulate.proofs.card.is_left_to_card.Goals as goal

pub returns-in_default : goal.returns-in_default
returns-in_default c = left-none c.args.octets.now c.in_default.field-0 (sym c.in_default.ensures.fault)

pub returns-then-packet : goal.returns-then-packet
returns-then-packet c =
    let is : c.in-Ok.packet ≡ packet_in c.args.octets.now = c.in-Ok.ensures.packet in
    left-other c.args.octets.now (sym c.in-Ok.ensures.fault)
    (subst (λ (p : Packet). (p.is_fragment ≡ true) ⊎ ((p.is_fragment ≡ false) × (p.protocol ≡ 17 → ⊥))) (c.packet.view_is ∙ is) c.then-packet.either)

pub returns : goal.returns
returns c =
    let inside = c.packet.inside in
    let p : Packet = record { source = inside.source; destination = inside.destination; is_fragment = inside.is_fragment; protocol = inside.protocol; payload = inside.payload.now } in
    c.is_partial.ensures
    ∙ left-datagram c.args.octets.now p c.in-Ok-read.view (sym c.in-Ok.ensures.fault) (c.packet.view_is ∙ c.in-Ok.ensures.packet)
    c.if-packet.false c.if-packet-ne-UDP.false c.in-Ok-read.ensures.split
