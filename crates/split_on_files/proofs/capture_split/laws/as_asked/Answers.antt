use Rattle.split_on_files.proofs.AsAsked.{tells_as_asked}
use Rattle.split_on_files.proofs.capture_split.laws.as_asked.Goals as goal

pub returns : goal.returns
returns c = tells_as_asked
