use Rattle.std.proofs.Common.{Some, None, arith}
use Rattle.std.proofs.lemmas.Str.Pattern.{strip_prefix_char}
use Rattle.compare_reports.proofs.Shifting.{shifted-back, shifted-on}
use Rattle.compare_reports.proofs.times.shifted.Goals as goal

pub returns-in-Some-clause-asked : goal.returns-in-Some-clause-asked
returns-in-Some-clause-asked c =
    shifted-back c.args.text.now c.in-Some.time.now c.args.within c.bounded.result c.clock_by.result
    (strip_prefix_char 45 c.args.text.now (Some c.in-Some.time) c.in-Some.ensures.cases (omega arith)) c.bounded.ensures c.clock_by.ensures.near

pub returns-in-None-clause-asked : goal.returns-in-None-clause-asked
returns-in-None-clause-asked c =
    shifted-on c.args.text.now c.args.within c.bounded-in-None.result c.clock_by-in-None.result
    (strip_prefix_char 45 c.args.text.now None c.in-None.ensures.cases (omega arith)) c.bounded-in-None.ensures c.clock_by-in-None.ensures.near
