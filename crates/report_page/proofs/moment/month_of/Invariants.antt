use Rattle.std.proofs.Common.{◌≡◌, ◌≤◌, nat_le, count_by}
use Rattle.std.specs.List.{range_with_len}
use Rattle.report_page.specs.Moment.{days_before_month}
use Rattle.report_page.proofs.moment.month_of.Given as goal

-- the months that have begun so far
abbrev pub invariant-loop-index : goal.invariant-loop-index
invariant-loop-index l = record {
  count : l.months ≡ count_by (λ month. nat_le (days_before_month l.leap month) l.day) (range_with_len 1 l.index);
  few : l.months ≤ l.index;
}
