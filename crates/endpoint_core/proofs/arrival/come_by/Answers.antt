use Rattle.std.proofs.Common.{sym, ◌∙◌}
use Rattle.endpoint_core.proofs.ComingLemmas.{arrived-reached}
use Rattle.endpoint_core.proofs.arrival.come_by.Goals as goal

pub returns-in-Ok-clause-there : goal.returns-in-Ok-clause-there
returns-in-Ok-clause-there c = rw c.at.ensures ((arrived-reached c.args.under.now c.args.octets.now c.in-Ok.arrived c.requires (sym c.unwrap.ensures.value ∙ c.in-Ok.is)).1)

pub returns-in-Ok-clause-reached : goal.returns-in-Ok-clause-reached
returns-in-Ok-clause-reached c = rw c.at.ensures ((arrived-reached c.args.under.now c.args.octets.now c.in-Ok.arrived c.requires (sym c.unwrap.ensures.value ∙ c.in-Ok.is)).0)
