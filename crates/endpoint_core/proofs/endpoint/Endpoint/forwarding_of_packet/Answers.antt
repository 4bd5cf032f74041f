use Rattle.std.proofs.Common.{◌≡◌, ◌≤◌, sym, ap, ◌∙◌, subst}
use Rattle.endpoint_core.specs.Held.{settings_of, state_at}
use Rattle.endpoint_core.specs.State.{State as Bridges, aged}
use Rattle.endpoint_core.specs.Arrival.{came_by}
use Rattle.endpoint_core.specs.Forwarding.{decision_of}
use Rattle.endpoint_core.specs.Kept.{Kept, state_of}
use Rattle.endpoint_core.specs.Step.{Decided, decided}
use Rattle.endpoint_core.proofs.StepsLemmas.{told-earlier}
use Rattle.endpoint_core.proofs.endpoint.Endpoint.forwarding_of_packet.Goals as goal

pub returns-clause-answer : goal.returns-clause-answer
returns-clause-answer c =
    let held = c.self.inside.state in
    let now = c.args.now in
    let later = subst (λ (k : Kept). k.moment ≤ now) (sym c.self.view_is) c.requires in
    let same = subst (λ (k : Kept). c.frame_in-came.result ≡ came_by (state_of k).bridges.settings.overlay c.args.original c.args.octets.now) (sym c.self.view_is) c.frame_in-came.ensures.value in
    let told = told-earlier (λ (B : Bridges). decided now B c.frame_in-came.result) held c.self.inside.moment now (decision_of (settings_of held) c.forwarding_ahead.result c.forwarding_ahead.new.places.items) later c.forwarding_ahead.ensures.decision in
    rw (← c.self.view_is) (ap Decided (told ∙ ap (decided now (aged now (state_at c.self.inside.moment held))) same))

pub returns-clause-leave : goal.returns-clause-leave
returns-clause-leave c = rw (← c.self.view_is) c.forwarding_ahead.ensures.leave
