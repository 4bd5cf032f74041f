use Rattle.overlay_config.proofs.Keeps.{migrated_means, migrated_twice}
use Rattle.overlay_config.proofs.laws.migrations.Goals as goal

pub returns-clause-means : goal.returns-clause-means
returns-clause-means c = migrated_means

pub returns-clause-twice : goal.returns-clause-twice
returns-clause-twice c = migrated_twice
