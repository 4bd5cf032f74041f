use Rattle.std.proofs.Common.{◌≡◌, ℕ, None, length, vec_capacity}
use Rattle.filter_db.specs.Database.{slot}
use Rattle.filter_db.proofs.list_tables.no_tables.Given as goal

-- so many places, none of them with a table
abbrev pub invariant-loop-vid : goal.invariant-loop-vid
invariant-loop-vid l = record {
  size : length l.tables.items ≡ l._vid;
  room : vec_capacity l.tables ≡ 4096;
  empty : (vid : ℕ) → slot l.tables.items vid ≡ None;
}
