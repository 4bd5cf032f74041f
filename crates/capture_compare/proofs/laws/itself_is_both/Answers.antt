use Rattle.capture_compare.proofs.Itself.{itself_is_both}
use Rattle.capture_compare.proofs.laws.itself_is_both.Goals as goal

pub returns : goal.returns
returns c = itself_is_both
