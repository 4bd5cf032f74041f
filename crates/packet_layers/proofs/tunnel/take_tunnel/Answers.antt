use Rattle.std.proofs.Common.{◌∙◌, sym, ap, option_map}
use Rattle.std.proofs.lemmas.Result.{err_from_is_err_and}
use Rattle.wire.specs.declared.ip_udp.addr.Tunnel.TheVariants.{Geneve}
use Rattle.decapsulate.specs.Arrival.{tunnel_reasons}
use Rattle.wire.specs.First.{first}
use Rattle.wire.specs.GeneveReading.{geneve_faults, reason_of}
use Rattle.decapsulate.proofs.PacketLemmas.{first-as_reasons}
use Rattle.packet_layers.proofs.tunnel.take_tunnel.Goals as goal

pub returns-in_err-view-in-Geneve-clause-fault : goal.returns-in_err-view-in-Geneve-clause-fault
returns-in_err-view-in-Geneve-clause-fault c =
    let known = c.args.known.now in
    let d = c.left-in-Geneve.result.now in
    let p = err_from_is_err_and c.from_residual-in_err-view-in-Geneve.result c.from_residual-in_err-view-in-Geneve.ensures.1 in
    let told = ap (option_map reason_of) c.in_err-view-in-Geneve.ensures.fault ∙ sym (first-as_reasons reason_of (geneve_faults known d)) in
    rw (p.1, p.2) (told ∙ ap (λ x. first (tunnel_reasons known Geneve x)) c.left-in-Geneve.ensures ∙ ap (λ k. first (tunnel_reasons known k c.args.apart.now.payload.octets)) (sym c.in-Geneve.is))

pub returns-in_ok-view-in-Geneve-clause-fault : goal.returns-in_ok-view-in-Geneve-clause-fault
returns-in_ok-view-in-Geneve-clause-fault c =
    let known = c.args.known.now in
    let d = c.left-in-Geneve.result.now in
    let told = ap (option_map reason_of) c.in_ok-view-in-Geneve.ensures.fault ∙ sym (first-as_reasons reason_of (geneve_faults known d)) in
    told ∙ ap (λ x. first (tunnel_reasons known Geneve x)) c.left-in-Geneve.ensures ∙ ap (λ k. first (tunnel_reasons known k c.args.apart.now.payload.octets)) (sym c.in-Geneve.is)
