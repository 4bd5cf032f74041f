use Rattle.std.proofs.Common.{◌≡◌, ◌++◌, drop}
use Rattle.timeline.specs.Events.{change_events}
use Rattle.timeline.proofs.timeline.change_events.Given as goal

abbrev pub invariant-loop-index : goal.invariant-loop-index
invariant-loop-index l = l.events.items ++ change_events l.index (drop l.index l.changes) ≡ change_events 0 l.changes
