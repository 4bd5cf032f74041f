use Rattle.overlay_config.proofs.Versions.{unversioned, second_same}
use Rattle.overlay_config.proofs.laws.unversioned_changes.Goals as goal

pub returns-clause-before : goal.returns-clause-before
returns-clause-before c = unversioned

pub returns-clause-second : goal.returns-clause-second
returns-clause-second c = second_same
