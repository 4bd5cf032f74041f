use Rattle.wire.specs.First.{fault_of}
use Rattle.endpoint_core.specs.Step.{Replied}
use Rattle.run_view.proofs.Answered.{seen_answered}
use Rattle.run_view.proofs.view.ViewWatch.hear_reply.Goals as goal

pub returns : goal.returns
returns g c before d expects =
    seen_answered before c.args.self.now c.write_reply.new.self d (Replied (fault_of c.args.reply)) expects c.write_reply.ensures.still c.write_reply.ensures.told
