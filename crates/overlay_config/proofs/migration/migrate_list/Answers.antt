use Rattle.std.proofs.Common.{◌≡◌, ◌∷◌, [], length, ap, ◌∙◌, append_assoc, arith}
use Rattle.std.specs.Vec.Iter.{into_iter_items}
use Rattle.toml.specs.View.{view, items_view}
use Rattle.toml.proofs.Views.{items_view-push}
use Rattle.overlay_config.specs.Migrate.{migrated_item}
use Rattle.overlay_config.proofs.Rewrites.{migrated_items-push, ok_inside}
use Rattle.overlay_config.proofs.migration.migrate_list.Goals as goal

pub loop-item-preserved : goal.loop-item-preserved
loop-item-preserved c =
    let at = c.loop-item in
    let x = c.in-Some.item in
    let y = c.in_ok-migrate_item.field-0 in
    let steps : into_iter_items at.item-iterator ≡ x ∷ into_iter_items c.next.new.self = c.in-Some.ensures.steps.0 in
    let seen : migrated_item (view x) ≡ view y = ok_inside (migrated_item (view x)) (view y) c.in_ok-migrate_item.ensures in (
      append_assoc at.yielded (x ∷ []) _ ∙ rw (← steps) at.invariant.0,
      ap items_view c.in_ok-push.ensures.items ∙ items_view-push at.migrated.items y ∙ rw (at.invariant.1, items_view-push at.yielded x, migrated_items-push (items_view at.yielded) (view x), seen),
      let was = at.invariant.2 in
          let gone = c.in-Some.ensures.steps.1 in
          let short = ap length steps in
          omega arith,
    )
