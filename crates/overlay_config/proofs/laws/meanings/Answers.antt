use Rattle.overlay_config.proofs.Meets.{texts_meet}
use Rattle.overlay_config.proofs.laws.meanings.Goals as goal

pub returns : goal.returns
returns c = texts_meet
