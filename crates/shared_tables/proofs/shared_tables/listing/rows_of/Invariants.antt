use Rattle.std.proofs.Common.{◌≡◌, ◌≤◌, length, take, vec_capacity}
use Rattle.shared_tables.specs.Listing.{held_rows}
use Rattle.shared_tables.proofs.shared_tables.listing.rows_of.Given as goal

-- the rows of the words so far, and room for the others
abbrev pub invariant-loop-word : goal.invariant-loop-word
invariant-loop-word l = record {
  items : l.rows.items ≡ held_rows l.slots.entries (take l.word-index l.words);
  size : length l.rows.items ≡ l.word-index;
  room : length l.words ≤ vec_capacity l.rows;
}
