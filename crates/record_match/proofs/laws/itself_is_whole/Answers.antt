use Rattle.record_match.proofs.Meeting.{itself_is_whole}
use Rattle.record_match.proofs.laws.itself_is_whole.Goals as goal

pub returns : goal.returns
returns c = itself_is_whole
