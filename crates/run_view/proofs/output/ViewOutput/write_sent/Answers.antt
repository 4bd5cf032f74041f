use Rattle.decision_objects.proofs.Growing.{tells_more}
use Rattle.run_view.proofs.output.ViewOutput.write_sent.Goals as goal

pub returns : goal.returns
returns g c = tells_more c.args.self.now c.write_came.new.self c.write_outcomes.new.self _ _ c.write_came.ensures c.write_outcomes.ensures
