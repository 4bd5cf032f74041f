use Rattle.std.proofs.Common.{◌≡◌, ◌∙◌, Ok, Some, ap, drop, subst, sym}
use Rattle.std.specs.Prelude.{IfSome}
use Rattle.pcap.specs.Record.{IsWithinLimits}
use Rattle.pcapng_input.proofs.Fronts.{bare_front}
use Rattle.pcapng_input.specs.Front.{IsFrontPacket, body_of}
use Rattle.pcapng_input.specs.Packet.{enhanced_head, packet_record}
use Rattle.pcapng_input.specs.declared.front.FrontPacket.{FrontPacket}
use Rattle.pcapng_input.proofs.front.front_packet.Goals as goal

pub returns-in-Ok-Some : goal.returns-in-Ok-Some
returns-in-Ok-Some c =
    let order = c.args.order in
    let text = c.args.text.now in
    let size = c.in-Some.size in
    let interfaces = c.args.interfaces.now in
    let last = c.args.last in
    let packet = c.in-Ok-Some.record in
    let body = c.body_of-body.ensures in
    let head = c.enhanced_head-head.ensures ∙ ap (enhanced_head order) body in
    let octets = c.behind_head-octets.ensures ∙ ap (drop 20) body in
    let found : Ok (Some packet) ≡ packet_record interfaces last c.enhanced_head-head.result c.behind_head-octets.result.now =
    ap (λ f. Ok f) (sym c.in-Ok-Some.field-0-is) ∙ c.in-Ok-Some.ensures.value in
    subst (λ (f : FrontPacket). IsFrontPacket order interfaces last text f) (sym c.bare_packet.ensures)
    (bare_front order interfaces last text size c.behind_head-octets.result.now packet octets c.in-Some.ensures
    (sym (found ∙ ap (λ h. packet_record interfaces last h c.behind_head-octets.result.now) head
    ∙ ap (packet_record interfaces last (enhanced_head order (body_of text size))) octets))
    (subst (λ f. IfSome f IsWithinLimits) c.in-Ok-Some.field-0-is c.in-Ok-Some.ensures.limits))
