use Rattle.std.proofs.Common.{◌≡◌, ◌+◌, ◌≤◌, drop}
use Rattle.text_advice.specs.Place.{place_behind}
use Rattle.text_advice.proofs.place.place_behind.Given as goal

abbrev pub invariant-loop-c : goal.invariant-loop-c
invariant-loop-c l = record {
  line : l.line ≤ l.c-index + 1;
  column : l.column ≤ l.c-index + 1;
  rest : place_behind l.line l.column (drop l.c-index l.front) ≡ place_behind 1 1 l.front;
}
