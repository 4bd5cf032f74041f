use Rattle.overlay_config.proofs.Asked.{third_means}
use Rattle.overlay_config.proofs.laws.third_versions.Goals as goal

pub returns : goal.returns
returns c = third_means
