use Rattle.std.proofs.Common.{rules, take}
use Rattle.run_counts.proofs.LineLemmas.{at_feed, of_another}
use Rattle.run_counts.proofs.parts.table_row.next_row.Goals as goal

pub returns-in_err-vid : goal.returns-in_err-vid
returns-in_err-vid c =
    rw c.from_residual-in_err-vid.ensures
    (at_feed c.args.segments.now c.args.text.now c.in_ok-end.end (search rules) (search rules) (search rules) (λ vid small own is. c.in_err-vid.ensures vid small is))

pub returns-then-not-has : goal.returns-then-not-has
returns-then-not-has c =
    at_feed c.args.segments.now c.args.text.now c.in_ok-end.end (search rules) (search rules) (search rules)
    (of_another c.args.segments.now (take c.in_ok-end.end c.args.text.now) c.in_ok-vid.vid (search rules) c.in_ok-vid.ensures (search rules))
