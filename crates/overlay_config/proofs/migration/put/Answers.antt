use Rattle.std.proofs.Common.{ap, ◌∙◌}
use Rattle.toml.specs.View.{members_view}
use Rattle.overlay_config.proofs.Rewrites.{view-insert}
use Rattle.overlay_config.proofs.migration.put.Goals as goal

pub returns-clause-value : goal.returns-clause-value
returns-clause-value c = ap members_view c.in_ok-insert.ensures.entries ∙ view-insert c.args.table.now.entries c.in_ok-from_str.field-0 c.args.value ∙ rw c.in_ok-from_str.ensures.ok
