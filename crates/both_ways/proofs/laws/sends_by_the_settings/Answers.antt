use Rattle.both_ways.proofs.Settled.{sends_by_the_settings}
use Rattle.both_ways.proofs.laws.sends_by_the_settings.Goals as goal

pub returns : goal.returns
returns c = sends_by_the_settings
