use Rattle.noninterference.proofs.Segments.{leaving-same, lines-same}
use Rattle.noninterference.proofs.laws.events.Goals as goal

pub returns : goal.returns
returns c = record { leaving = leaving-same; told = lines-same }
