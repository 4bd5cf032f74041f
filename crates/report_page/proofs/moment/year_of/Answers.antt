use Rattle.std.proofs.Common.{◌≡◌, ◌∙◌, ◌+◌, ap, ℕ, nat_le, cond, arith}
use Rattle.report_page.specs.Moment.{days_before_year}
use Rattle.report_page.proofs.Dates.{at_most_one, counts_one, year_is}
use Rattle.report_page.proofs.moment.year_of.Goals as goal

pub loop-index-preserved : goal.loop-index-preserved
loop-index-preserved c =
    let is : c.one_if-years.result ≡ cond (nat_le (days_before_year (1971 + c.loop-index.index)) c.args.day) 1 0 =
    c.one_if-years.ensures ∙ ap (λ (k : ℕ). cond (nat_le k c.args.day) 1 0) c.days_before_year.ensures in
    let few = at_most_one _ c.one_if-years.result is in
    record {
      count = counts_one (λ year. nat_le (days_before_year year) c.args.day) 1971 c.loop-index.index c.loop-index.years c.one_if-years.result c.loop-index.invariant.count is;
      few = omega arith;
    }

pub returns-clause-year : goal.returns-clause-year
returns-clause-year c =
    ap (λ (k : ℕ). 1970 + k) c.loop-index.invariant.count ∙ year_is c.args.day c.loop-index.index (omega (arith, c.loop-index-test.false, c.loop-index.auto.index-end))
