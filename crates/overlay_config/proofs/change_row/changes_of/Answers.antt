use Rattle.overlay_config.proofs.Rising.{given_changes_rise}
use Rattle.overlay_config.proofs.change_row.changes_of.Goals as goal

pub returns-clause-rising : goal.returns-clause-rising
returns-clause-rising c = given_changes_rise _ c.read_changes.result c.read_changes.ensures
