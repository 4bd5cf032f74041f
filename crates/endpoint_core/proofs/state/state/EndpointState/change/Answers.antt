use Rattle.std.proofs.Common.{◌∙◌, ap}
use Rattle.endpoint_core.specs.Held.{Held, state_at}
use Rattle.endpoint_core.specs.State.{fault, after_change}
use Rattle.endpoint_core.proofs.state.state.EndpointState.change.Goals as goal

pub returns-clause-fault : goal.returns-clause-fault
returns-clause-fault c = c.change.ensures.fault ∙ ap (λ (h : Held). fault (state_at c.args.now h) c.args.change) c.self.view_is

pub returns-clause-after : goal.returns-clause-after
returns-clause-after c = c.change.ensures.after ∙ ap (λ (h : Held). after_change c.args.now c.args.change (state_at c.args.now h)) c.self.view_is
