use Rattle.std.proofs.Common.{◌≡◌, ◌∙◌, ◌+◌, ap, ℕ, nat_le, cond, arith}
use Rattle.report_page.specs.Moment.{days_before_month}
use Rattle.report_page.proofs.Dates.{at_most_one, counts_one, month_is}
use Rattle.report_page.proofs.moment.month_of.Goals as goal

pub loop-index-preserved : goal.loop-index-preserved
loop-index-preserved c =
    let is : c.one_if-months.result ≡ cond (nat_le (days_before_month c.args.leap (1 + c.loop-index.index)) c.args.day) 1 0 =
    c.one_if-months.ensures ∙ ap (λ (k : ℕ). cond (nat_le k c.args.day) 1 0) c.days_before_month.ensures in
    let few = at_most_one _ c.one_if-months.result is in
    record {
      count = counts_one (λ month. nat_le (days_before_month c.args.leap month) c.args.day) 1 c.loop-index.index c.loop-index.months c.one_if-months.result c.loop-index.invariant.count is;
      few = omega arith;
    }

pub returns-clause-month : goal.returns-clause-month
returns-clause-month c =
    c.loop-index.invariant.count ∙ month_is c.args.leap c.args.day c.loop-index.index (omega (arith, c.loop-index-test.false, c.loop-index.auto.index-end))
