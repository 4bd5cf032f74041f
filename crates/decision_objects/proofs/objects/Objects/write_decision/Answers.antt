use Rattle.std.proofs.Common.{Ok, Err}
use Rattle.endpoint_core.specs.Kept.{state_of}
use Rattle.decision_objects.proofs.Answered.{decided}
use Rattle.decision_objects.proofs.objects.Objects.write_decision.Goals as goal

pub returns-in-Ok-clause-told : goal.returns-in-Ok-clause-told
returns-in-Ok-clause-told g c =
    decided c.args.self.now _ c.write_sent.new.self.told (state_of c.args.endpoint.now).bridges.settings c.args.forwarding.now (Ok c.in-Ok.came) c.args.places.now
    c.self.view_is c.in-Ok.is c.write_sent.ensures

pub returns-in-Err-clause-told : goal.returns-in-Err-clause-told
returns-in-Err-clause-told g c =
    decided c.args.self.now _ c.write_drop.new.self.told (state_of c.args.endpoint.now).bridges.settings c.args.forwarding.now (Err c.in-Err.refused) c.args.places.now
    c.self.view_is c.in-Err.is c.write_drop.ensures
