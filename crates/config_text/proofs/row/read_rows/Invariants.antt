use Rattle.std.proofs.Common.{◌≡◌, [], map, drop, vec_len}
use Rattle.toml.specs.View.{view}
use Rattle.config_text.specs.Table.{each}
use Rattle.config_text.proofs.row.read_rows.Given as goal

abbrev pub invariant-loop-i : goal.invariant-loop-i
invariant-loop-i g l =
    let means = g.R.ListRow.means l.row in
    record {
      count : vec_len l.rows ≡ l.i;
      rest : each means l.name l.rows.items (map view (drop l.i l.items)) ≡ each means l.name [] (map view l.items);
    }
