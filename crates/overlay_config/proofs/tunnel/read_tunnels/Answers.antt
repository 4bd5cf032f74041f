use Rattle.std.proofs.Common.{lit≤, sym, ◌∙◌}
use Rattle.toml.specs.View.{view}
use Rattle.config_text.specs.Reader.{place_of}
use Rattle.overlay_config.proofs.Tunnels.{item_fits, two_of, two_items}
use Rattle.overlay_config.proofs.tunnel.read_tunnels.Goals as goal

pub read_item-requires-clause-short : goal.read_item-requires-clause-short
read_item-requires-clause-short c = item_fits (place_of c.args.at.now) _ 1 c.requires.short (c.as_str.ensures.value ∙ c.path-list.ensures) (lit≤ tt)

pub read_item-requires-in-len2-up-clause-short : goal.read_item-requires-in-len2-up-clause-short
read_item-requires-in-len2-up-clause-short c = item_fits (place_of c.args.at.now) _ 1 c.requires.short (c.as_str-in-len2-up.ensures.value ∙ c.path-list.ensures) (lit≤ tt)

pub read_item-requires-in-len2-up-2-clause-short : goal.read_item-requires-in-len2-up-2-clause-short
read_item-requires-in-len2-up-2-clause-short c = item_fits (place_of c.args.at.now) _ 2 c.requires.short (c.as_str-in-len2-up-2.ensures.value ∙ c.path-list.ensures) (lit≤ tt)

pub returns-in_ok-table-in-len2-up-2 : goal.returns-in_ok-table-in-len2-up-2
returns-in_ok-table-in-len2-up-2 c =
    sym (two_items c.args.own c.args.most (place_of c.args.at.now) _ _ _ c.in_ok-table-in-len2-up.table c.in_ok-table-in-len2-up-2.table _ _
    (c.as_str-in-len2-up.ensures.value ∙ c.path-list.ensures)
    (c.as_str-in-len2-up-2.ensures.value ∙ c.path-list.ensures)
    (sym c.in_ok-limited_items.ensures.value)
    (two_of view c.in_ok-limited_items.field-0.now _ _ c.in-len2-up.len_at_least c.in_ok-limited_items.ensures.few c.first-item-2.is c.second-item.is)
    (sym c.in_ok-table-in-len2-up.ensures.value)
    (sym c.in_ok-table-in-len2-up-2.ensures.value))
