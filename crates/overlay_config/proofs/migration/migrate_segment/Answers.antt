use Rattle.std.proofs.Common.{Ok, ap, ◌∙◌}
use Rattle.toml.specs.View.{view, members_view, table_view}
use Rattle.toml.specs.declared.value.Value.{Array}
use Rattle.toml.proofs.Views.{view-Array, view-Table}
use Rattle.overlay_config.proofs.Rewrites.{segment_steps}
use Rattle.overlay_config.proofs.migration.migrate_segment.Goals as goal

pub returns : goal.returns
returns c =
    let tunnels = view-Array c.push.new.self ∙ rw (c.in_ok-push.ensures.items, c.in_ok-tunnels.ensures.items, view-Table c.move_value-3.new.to) in
    ap Ok (segment_steps (table_view c.args.segment) (table_view c.new-tunnel.result)
    (table_view c.move_value.new.from) (table_view c.move_value.new.to)
    (table_view c.move_value-2.new.from) (table_view c.move_value-2.new.to)
    (table_view c.move_value-3.new.from) (table_view c.move_value-3.new.to)
    (table_view c.put.new.table) (view (Array c.push.new.self)) (ap members_view c.new-tunnel.ensures.empty)
    c.in_ok-move_value.ensures.from c.in_ok-move_value.ensures.to
    c.in_ok-move_value-2.ensures.from c.in_ok-move_value-2.ensures.to
    c.in_ok-move_value-3.ensures.from c.in_ok-move_value-3.ensures.to
    tunnels c.in_ok-put.ensures.value)
