use Rattle.std.proofs.Common.{sym, ap, ◌∙◌}
use Rattle.wire.specs.First.{first}
use Rattle.wire.specs.declared.ip_udp.udp_view.SumState.{SumState}
use Rattle.decapsulate.specs.Arrival.{Packet, sum_reasons, datagram_reasons}
use Rattle.overlay.specs.UnderlaySettings.{kind_at}
use Rattle.decapsulate.proofs.PacketLemmas.{datagram-sum}
use Rattle.decapsulate.proofs.datagram.datagram_of.Goals as goal

pub returns-in-Some-sum_refusal-clause-fault : goal.returns-in-Some-sum_refusal-clause-fault
returns-in-Some-sum_refusal-clause-fault c =
    let U = c.args.underlay.now in
    let inside = c.packet.inside in
    let p : Packet = record { source = inside.source; destination = inside.destination; is_fragment = inside.is_fragment; protocol = inside.protocol; payload = inside.payload.now } in
    sym c.in-Some-sum_refusal.is
    ∙ c.sum_refusal.ensures
    ∙ ap (λ (s : SumState). first (sum_reasons U p.source s)) c.sum_state-state.ensures
    ∙ datagram-sum U p c.in-Ok.view c.in-Some.kind c.in-Ok.ensures.split (sym (c.kind_at.ensures ∙ ap (kind_at U) c.dport.ensures) ∙ c.in-Some.is)
    ∙ ap (λ (q : Packet). first (datagram_reasons U q)) c.packet.view_is

pub returns-in-None-clause-fault : goal.returns-in-None-clause-fault
returns-in-None-clause-fault c =
    let U = c.args.underlay.now in
    let inside = c.packet.inside in
    let p : Packet = record { source = inside.source; destination = inside.destination; is_fragment = inside.is_fragment; protocol = inside.protocol; payload = inside.payload.now } in
    sym c.in-None.is
    ∙ c.sum_refusal.ensures
    ∙ ap (λ (s : SumState). first (sum_reasons U p.source s)) c.sum_state-state.ensures
    ∙ datagram-sum U p c.in-Ok.view c.in-Some.kind c.in-Ok.ensures.split (sym (c.kind_at.ensures ∙ ap (kind_at U) c.dport.ensures) ∙ c.in-Some.is)
    ∙ ap (λ (q : Packet). first (datagram_reasons U q)) c.packet.view_is
