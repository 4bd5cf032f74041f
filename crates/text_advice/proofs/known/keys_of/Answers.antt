use Rattle.text_advice.specs.Known.{keys_of}
use Rattle.text_advice.proofs.known.keys_of.Goals as goal

pub returns-in-Settings : goal.returns-in-Settings
unfolding keys_of
returns-in-Settings c = rw c.in-Settings.is c.keys_in.ensures
