use Rattle.std.proofs.Common.{◌-◌}
use Rattle.ranked_rows.proofs.least.+raised_between.Given as goal

abbrev pub decreases-raised_between : goal.decreases-raised_between
decreases-raised_between g l = l.high - l.low
