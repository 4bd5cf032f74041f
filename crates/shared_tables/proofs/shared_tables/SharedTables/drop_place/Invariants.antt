use Rattle.std.proofs.Common.{◌≡◌}
use Rattle.shared_tables.proofs.OnEntries.Passing.{Passes}
use Rattle.shared_tables.proofs.shared_tables.SharedTables.drop_place.Given as goal

abbrev pub invariant-loop-entry : goal.invariant-loop-entry
invariant-loop-entry l = record {
  passes : Passes l.initial.self-inside.slots l.self-inside.slots l.self-inside.trees l.initial.self-inside.shares.items l.self-inside.shares.items l.self-inside.moment l.vid l.place l.cursor l._entry l._entry-end;
  moment : l.self-inside.moment ≡ l.initial.self-inside.moment;
  calls : l.self-inside.calls.total ≡ l.initial.self-inside.calls.total;
  compared : l.self-inside.compared.total ≡ l.initial.self-inside.compared.total;
}
