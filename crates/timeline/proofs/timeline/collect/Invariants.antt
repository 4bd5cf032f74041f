use Rattle.std.proofs.Common.{◌≡◌, ◌++◌}
use Rattle.std.specs.List.{AllByRecursion, flat_map}
use Rattle.std.specs.Vec.Iter.{into_iter_items}
use Rattle.timeline.specs.Events.{all_events, events_of}
use Rattle.timeline.specs.Faults.{record_faults}
use Rattle.timeline.specs.Inputs.{HasBoundedRecords}
use Rattle.timeline.specs.Timeline.{cuts_of}
use Rattle.timeline.proofs.timeline.collect.Given as goal

-- what was read so far, and what is left, are all
abbrev pub invariant-loop-capture : goal.invariant-loop-capture
invariant-loop-capture l = record {
  next : (goal.iterator-loop-capture).can_next l.capture-iterator;
  finite : (goal.iterator-loop-capture).is_finite l.capture-iterator;
  events : l.events.items ++ flat_map events_of (into_iter_items l.capture-iterator) ≡ all_events l.changes l.fn.captures.items;
  cuts : l.cuts.items ++ cuts_of (into_iter_items l.capture-iterator) ≡ cuts_of l.fn.captures.items;
  faults : record_faults (into_iter_items l.capture-iterator) ≡ record_faults l.fn.captures.items;
  records : AllByRecursion HasBoundedRecords (into_iter_items l.capture-iterator);
}
