use Rattle.std.proofs.Common.{◌+◌, ◌*◌, ◌≤◌, drop}
use Rattle.toml.specs.Data.{items_depth, members_depth}
use Rattle.toml.specs.View.{items_view, members_view}
use Rattle.overlay_config.proofs.nesting.+nesting.Given as goal

abbrev pub decreases-value_nests_within : goal.decreases-value_nests_within
decreases-value_nests_within l = 2 * l.levels

abbrev pub decreases-array_nests_within : goal.decreases-array_nests_within
decreases-array_nests_within l = 2 * l.levels + 1

abbrev pub decreases-nests_within : goal.decreases-nests_within
decreases-nests_within l = 2 * l.levels + 1

abbrev pub invariant-array_nests_within-items : goal.invariant-array_nests_within-items
invariant-array_nests_within-items l = items_depth (items_view (drop l.item-index l.item-items)) ≤ l.fn.levels → items_depth (items_view l.item-items) ≤ l.fn.levels

abbrev pub invariant-nests_within-members : goal.invariant-nests_within-members
invariant-nests_within-members l =
    (goal.iterator-nests_within-members).can_next l._key-iterator ×
    (goal.iterator-nests_within-members).is_finite l._key-iterator ×
    (members_depth (members_view l._key-iterator) ≤ l.fn.levels → members_depth (members_view l.table.entries) ≤ l.fn.levels)
