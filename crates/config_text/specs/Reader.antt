-- What a reader reads. It states no standard.
use Rattle.std.specs.Prelude.{Option, Some, None, String}
use Rattle.std.specs.Borrow.{Bor}
use Rattle.std.specs.BTreeMap.{BTreeMap}
use Rattle.std.specs.declared.alloc.Global.{Global}
use Rattle.toml.specs.Data.{Members, no_members}
use Rattle.toml.specs.View.{table_view}
use Rattle.toml.specs.declared.value.Value.{Value}
use Rattle.config_text.specs.declared.reader.Reader.{Reader}
use Rattle.config_text.specs.Table.{Place}

-- the members of a table, where an absent one is empty
abbrev pub members_in : Option (Bor (BTreeMap (String Global) Value)) → Members
members_in None = no_members
members_in (Some table) = table_view table.now

-- the table that a reader stands at
abbrev pub place_of : Reader → Place
place_of reader = record { prefix = reader.prefix; members = members_in reader.table }
