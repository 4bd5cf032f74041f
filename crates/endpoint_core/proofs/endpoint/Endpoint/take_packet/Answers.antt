use Rattle.std.proofs.Common.{◌≤◌, ◌+◌, Result, ap, ◌∙◌, subst}
use Rattle.wire.specs.declared.ether.reason.Refused.{Refused}
use Rattle.endpoint_core.specs.Arrival.{Arrival}
use Rattle.endpoint_core.specs.Kept.{state_of}
use Rattle.endpoint_core.specs.Step.{after_coming}
use Rattle.endpoint_core.specs.Work.{most_calls, most_compared_by}
use Rattle.endpoint_core.proofs.endpoint.Endpoint.take_packet.Goals as goal

pub returns-clause-after : goal.returns-clause-after
returns-clause-after c =
    c.take.ensures.after ∙ ap (λ (r : Result Arrival Refused). after_coming c.args.now r (state_of c.args.self.now)) c.frame_in-forwarding.ensures.value

pub returns-clause-calls : goal.returns-clause-calls
returns-clause-calls c =
    subst (λ (r : Result Arrival Refused). c.take.new.self.held.tables.calls ≤ c.args.self.now.held.tables.calls + most_calls r) c.frame_in-forwarding.ensures.value c.take.ensures.calls

pub returns-clause-compared : goal.returns-clause-compared
returns-clause-compared c =
    subst (λ (r : Result Arrival Refused). c.take.new.self.held.tables.compared ≤ c.args.self.now.held.tables.compared + most_compared_by r) c.frame_in-forwarding.ensures.value c.take.ensures.compared
