use Rattle.std.proofs.Common.{◌≡◌, ◌≤◌, nat_le, count_by}
use Rattle.std.specs.List.{range_with_len}
use Rattle.report_page.specs.Moment.{days_before_year}
use Rattle.report_page.proofs.moment.year_of.Given as goal

-- the years that have begun so far
abbrev pub invariant-loop-index : goal.invariant-loop-index
invariant-loop-index l = record {
  count : l.years ≡ count_by (λ year. nat_le (days_before_year year) l.day) (range_with_len 1971 l.index);
  few : l.years ≤ l.index;
}
