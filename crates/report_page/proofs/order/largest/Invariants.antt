use Rattle.std.proofs.Common.{◌≡◌, ◌≤◌, length}
use Rattle.report_page.specs.Order.{largest}
use Rattle.report_page.proofs.order.largest.Given as goal

-- those of the places so far
abbrev pub invariant-loop-place : goal.invariant-loop-place
invariant-loop-place g l = record {
  places : l.order.items ≡ largest (g.N.Numbers.number l.numbers) l.place;
  few : length l.order.items ≤ 40;
}
