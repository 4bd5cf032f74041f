use Rattle.std.proofs.Common.{◌≡◌, map, drop}
use Rattle.toml.specs.View.{view}
use Rattle.config_text.specs.Column.{gathered}
use Rattle.config_text.proofs.list_column.gather.Given as goal

abbrev pub invariant-loop-value : goal.invariant-loop-value
invariant-loop-value g l =
    let puts = g.L.ListColumn.puts l.column in
    gathered puts l.list (map view (drop l.value-index l.items)) ≡ gathered puts l.fn.empty (map view l.items)
