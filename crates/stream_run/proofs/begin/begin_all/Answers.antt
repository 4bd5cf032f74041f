use Rattle.std.proofs.Common.{length}
use Rattle.stream_run.proofs.Waiting.{headers_handed}
use Rattle.stream_run.proofs.begin.begin_all.Goals as goal

pub returns-then-may_wait-clause-begun : goal.returns-then-may_wait-clause-begun
returns-then-may_wait-clause-begun g c start at =
    headers_handed start c.hand_on_all.new.outputs (length c.args.outputs.now.ports) c.hand_on_all.result (c.hand_on_all.ensures.handed start _ (c.in_default.ensures start at))
