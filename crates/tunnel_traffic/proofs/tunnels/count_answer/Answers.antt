use Rattle.std.proofs.Common.{◌≡◌, refl, subst, sym}
use Rattle.endpoint_core.specs.Forwarding.{Forwarding, decision_of}
use Rattle.endpoint_core.specs.Kept.{state_of}
use Rattle.endpoint_core.specs.Step.{Decided}
use Rattle.tunnel_traffic.specs.TrafficRows.{counted_all}
use Rattle.tunnel_traffic.specs.Tunnels.{answer_rows}
use Rattle.tunnel_traffic.proofs.tunnels.count_answer.Goals as goal

pub returns-in-Ok : goal.returns-in-Ok
returns-in-Ok c =
    let S = (state_of c.args.endpoint.now).bridges.settings in
    subst (λ (k : Forwarding). c.count_leaving.new.remotes ≡ counted_all c.args.remotes.now (answer_rows (Decided (decision_of S k c.args.places.now)))) (sym c.in-Ok.is) c.count_leaving.ensures

pub returns-in_default : goal.returns-in_default
returns-in_default c =
    let S = (state_of c.args.endpoint.now).bridges.settings in
    subst (λ (k : Forwarding). c.args.remotes.now ≡ counted_all c.args.remotes.now (answer_rows (Decided (decision_of S k c.args.places.now)))) (sym c.in_default.is) refl
