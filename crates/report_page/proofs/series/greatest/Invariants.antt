use Rattle.std.proofs.Common.{◌≡◌}
use Rattle.report_page.specs.Series.{greatest}
use Rattle.report_page.proofs.series.greatest.Given as goal

-- the greatest so far
abbrev pub invariant-loop-place : goal.invariant-loop-place
invariant-loop-place g l = l.found ≡ greatest (g.N.Numbers.number l.numbers) l.place
