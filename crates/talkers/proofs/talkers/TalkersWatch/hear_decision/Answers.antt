use Rattle.std.proofs.Common.{subst}
use Rattle.endpoint_core.specs.Forwarding.{decision_of}
use Rattle.endpoint_core.specs.Kept.{state_of}
use Rattle.endpoint_core.specs.Step.{Decided}
use Rattle.talkers.specs.Talkers.{IsTold, Talkers}
use Rattle.talkers.proofs.talkers.TalkersWatch.hear_decision.Goals as goal

pub returns : goal.returns
returns c before d expects =
    subst (λ (t : Talkers). IsTold t (Decided (decision_of (state_of c.args.endpoint.now).bridges.settings c.args.forwarding.now c.args.places.now)) c.count_decision.new.self) expects c.count_decision.ensures
