use Rattle.decision_objects.specs.Objects.{cut_object}
use Rattle.decision_objects.proofs.Growing.{line_told}
use Rattle.decision_objects.proofs.output.ObjectOutput.write_cut.Goals as goal

pub returns : goal.returns
returns g c =
    line_told c.args.self.now _ c.hand_on.new.self.told c.write_cut.new.line (cut_object c.args.cut.now) c.self.view_is c.write_cut.ensures c.hand_on.ensures.told
