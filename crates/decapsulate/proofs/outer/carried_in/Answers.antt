use Rattle.std.proofs.Common.{◌∙◌, Some, sym, ap}
use Rattle.std.proofs.lemmas.Result.{err_from_is_err_and}
use Rattle.decapsulate.specs.Arrival.{kind_to, packet_reasons, datagram_reasons, tunnel_reasons}
use Rattle.wire.specs.First.{first}
use Rattle.decapsulate.proofs.ReasonsLemmas.{carried-packet, carried-datagram, carried-tunnel}
use Rattle.decapsulate.proofs.outer.carried_in.Goals as goal

pub returns-in_err-check-clause-fault : goal.returns-in_err-check-clause-fault
returns-in_err-check-clause-fault c =
    let U = c.args.underlay.now in
    let packet = c.args.packet.now in
    let p = err_from_is_err_and c.from_residual.result c.from_residual.ensures.1 in
    let told = c.in_err-check.ensures in
    rw (p.1, p.2) (sym (carried-packet U packet c.in_err-check.field-0.0 (sym told)))

pub returns-in_err-kind-clause-fault : goal.returns-in_err-kind-clause-fault
returns-in_err-kind-clause-fault c =
    let U = c.args.underlay.now in
    let packet = c.args.packet.now in
    let p = err_from_is_err_and c.from_residual-in_err-kind.result c.from_residual-in_err-kind.ensures.1 in
    let checked = c.in_ok-check.ensures in
    let told = c.in_err-kind.ensures.fault in
    rw (p.1, p.2) (sym (carried-datagram U packet c.in_err-kind.field-0.0 (sym checked) (sym told)))

pub returns-in-Err-clause-fault : goal.returns-in-Err-clause-fault
returns-in-Err-clause-fault c =
    let U = c.args.underlay.now in
    let packet = c.args.packet.now in
    let kind = c.in_ok-kind.kind in
    let checked = c.in_ok-check.ensures in
    let taken = c.in_ok-kind.ensures.fault in
    let kind_is = c.in_ok-kind.ensures.kind in
    let told = c.in-Err.ensures.fault ∙ ap (λ d. first (tunnel_reasons U.known kind d)) c.in_ok-kind.ensures.data in
    sym (carried-tunnel U packet kind (Some c.in-Err.reason) (sym checked) (sym taken) kind_is (sym told))
