use Rattle.std.proofs.Common.{◌≡◌, ◌++◌, length}
use Rattle.std.specs.Vec.Iter.{into_iter_items, into_iter_len}
use Rattle.toml.specs.View.{array_view, items_view}
use Rattle.overlay_config.specs.Migrate.{migrated_items}
use Rattle.overlay_config.proofs.migration.migrate_list.Given as goal

abbrev pub invariant-loop-item : goal.invariant-loop-item
invariant-loop-item l = (l.yielded ++ into_iter_items l.item-iterator ≡ into_iter_items l.initial.item-iterator)
    × (array_view l.migrated ≡ migrated_items (items_view l.yielded))
    × (into_iter_len l.item-iterator ≡ length (into_iter_items l.item-iterator))
