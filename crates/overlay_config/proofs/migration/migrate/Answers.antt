use Rattle.toml.specs.View.{table_view}
use Rattle.overlay_config.specs.Migrate.{migrated}
use Rattle.overlay_config.proofs.Readings.{ok_is}
use Rattle.overlay_config.proofs.Keeps.{same_settings, same_table}
use Rattle.overlay_config.proofs.migration.migrate.Goals as goal

pub returns-clause-table : goal.returns-clause-table
returns-clause-table c =
    let old = table_view c.in_ok-table.table in
    let new = table_view c.in_ok-migrated.migrated in
    same_table c.args.text.now c.written.result old new c.in_ok-table.ensures
    (ok_is (migrated old) new c.in_ok-migrated.ensures) (c.written.ensures.table, c.written.ensures.utf8)

pub returns-clause-settings : goal.returns-clause-settings
returns-clause-settings c =
    let old = table_view c.in_ok-table.table in
    let new = table_view c.in_ok-migrated.migrated in
    same_settings c.args.text.now c.written.result old new c.in_ok-read_settings.field-0 c.in_ok-table.ensures c.in_ok-read_settings.ensures
    (ok_is (migrated old) new c.in_ok-migrated.ensures) (c.written.ensures.table, c.written.ensures.utf8)
