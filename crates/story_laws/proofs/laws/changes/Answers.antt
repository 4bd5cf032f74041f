use Rattle.story_laws.proofs.Changes.{change-same}
use Rattle.story_laws.proofs.laws.changes.Goals as goal

pub returns : goal.returns
returns c = change-same
