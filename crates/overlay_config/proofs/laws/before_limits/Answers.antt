use Rattle.overlay_config.proofs.Asked.{others_same, absent_same}
use Rattle.overlay_config.proofs.laws.before_limits.Goals as goal

pub returns-clause-others : goal.returns-clause-others
returns-clause-others c = others_same

pub returns-clause-unasked : goal.returns-clause-unasked
returns-clause-unasked c = absent_same
