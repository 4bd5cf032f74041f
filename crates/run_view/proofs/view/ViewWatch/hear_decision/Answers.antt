use Rattle.endpoint_core.specs.Forwarding.{decision_of}
use Rattle.endpoint_core.specs.Kept.{state_of}
use Rattle.endpoint_core.specs.Step.{Decided}
use Rattle.run_view.proofs.Answered.{seen_answered}
use Rattle.run_view.proofs.view.ViewWatch.hear_decision.Goals as goal

pub returns : goal.returns
returns g c before d expects =
    seen_answered before c.args.self.now c.write_decision.new.self d
    (Decided (decision_of (state_of c.args.endpoint.now).bridges.settings c.args.forwarding.now c.args.places.now)) expects c.write_decision.ensures.still
    c.write_decision.ensures.told
