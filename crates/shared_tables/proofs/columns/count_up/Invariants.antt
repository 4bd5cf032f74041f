use Rattle.std.proofs.Common.{◌≡◌, ◌+◌, ◌++◌, length, vec_capacity}
use Rattle.std.specs.List.{range_with_len}
use Rattle.shared_tables.proofs.columns.count_up.Given as goal

-- so many numbers stand behind the others
abbrev pub invariant-loop-number : goal.invariant-loop-number
invariant-loop-number l = record {
  items : l.numbers.items ≡ l.initial.numbers.items ++ range_with_len 0 l.number;
  size : length l.numbers.items ≡ length l.initial.numbers.items + l.number;
  room : vec_capacity l.numbers ≡ vec_capacity l.initial.numbers;
}
