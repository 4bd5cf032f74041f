use Rattle.std.proofs.Common.{◌≡◌, ◌+◌, ◌++◌, length, replicate, vec_capacity}
use Rattle.shared_tables.proofs.columns.fill.Given as goal

-- so many words stand behind the others
abbrev pub invariant-loop-word : goal.invariant-loop-word
invariant-loop-word l = record {
  items : l.numbers.items ≡ l.initial.numbers.items ++ replicate l._word l.word;
  size : length l.numbers.items ≡ length l.initial.numbers.items + l._word;
  room : vec_capacity l.numbers ≡ vec_capacity l.initial.numbers;
}
