use Rattle.std.proofs.Common.{◌≡◌}
use Rattle.report_page.specs.Series.{together}
use Rattle.report_page.proofs.series.together.Given as goal

-- the sum so far
abbrev pub invariant-loop-place : goal.invariant-loop-place
invariant-loop-place g l = l.sum ≡ together (g.N.Numbers.number l.numbers) l.place
