use Rattle.wire.specs.First.{fault_of}
use Rattle.endpoint_core.specs.Step.{Replied}
use Rattle.decision_objects.proofs.Answered.{answered}
use Rattle.decision_objects.proofs.objects.Objects.write_reply.Goals as goal

pub returns-clause-told : goal.returns-clause-told
returns-clause-told g c = answered c.args.self.now _ c.write_reply.new.self.told (Replied (fault_of c.args.reply)) c.self.view_is c.write_reply.ensures
