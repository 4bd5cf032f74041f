-- What the fields of `SharedTables` stand for. It states no standard.
use Rattle.std.specs.Prelude.{map}
use Rattle.std.specs.Option.{option_map}
use Rattle.shared_tables.specs.declared.shared_tables.SharedTables.TheInside.{Inside}
use Rattle.shared_tables.specs.Shared.{Shared}
use Rattle.shared_tables.specs.SlotsOfSegments.{rule_of}
use Rattle.shared_tables.specs.WholePool.{IsWhole}

-- the value that contracts see
abbrev pub shared_of : Inside → Shared
shared_of a = record {
  entries = a.slots.entries;
  rules = map (option_map rule_of) a.shares.items;
  moment = a.moment;
  calls = a.calls.total;
  compared = a.compared.total;
  visited = a.slots.visited;
}

-- what holds of the fields
abbrev pub IsSoundInside : Inside → Type 0
IsSoundInside a = IsWhole a.slots a.trees a.shares.items a.moment
