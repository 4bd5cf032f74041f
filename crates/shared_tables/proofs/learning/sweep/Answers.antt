use Rattle.std.proofs.Common.{false}
use Rattle.shared_tables.proofs.OnEntries.Threaded.{on_line_held}
use Rattle.shared_tables.proofs.learning.sweep.Goals as goal

pub dead-requires : goal.dead-requires
dead-requires c = on_line_held c.args.vid false _ _ c.in-Some.ensures.some.ages
