use Rattle.std.proofs.Common.{◌≡◌, ℕ, length, take}
use Rattle.filter_db.specs.Segment.{new_segments}
use Rattle.filter_db.specs.Database.{slot}
use Rattle.filter_db.proofs.list_tables.ListTables.open.Given as goal

-- the rules so far have their tables
abbrev pub invariant-loop-rule : goal.invariant-loop-rule
invariant-loop-rule l = record {
  size : length l.tables.items ≡ 4096;
  opened : (vid : ℕ) → slot l.tables.items vid ≡ new_segments (take l.rule-index l.rules) vid;
}
