use Rattle.std.proofs.Common.{◌≡◌, map}
use Rattle.toml.specs.View.{members_view, table_view}
use Rattle.config_text.specs.Table.{all_known}
use Rattle.config_text.proofs.reader.all_known.Given as goal

abbrev pub invariant-loop-key : goal.invariant-loop-key
invariant-loop-key l = all_known (map (λ k. k.now) l.keys) (members_view l.key-iterator) ≡ all_known (map (λ k. k.now) l.keys) (table_view l.table)
