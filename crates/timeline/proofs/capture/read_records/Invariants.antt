use Rattle.std.proofs.Common.{◌≡◌, ◌+◌, ◌^◌, ◌<◌, ◌++◌, length}
use Rattle.timeline.specs.Events.{record_events}
use Rattle.timeline.proofs.capture.read_records.Given as goal

-- the events so far, and those of what is left, are those of the capture
abbrev pub invariant-records : goal.invariant-records
invariant-records l = record {
  events : l.events.items ++ record_events l.tap l.count l.latest l.capture.records ≡ l.fn.events.items ++ record_events l.tap 0 0 l.fn.capture.records;
  count : l.count + length l.capture.records ≡ length l.fn.capture.records;
  few : length l.fn.capture.records < 2 ^ 60;
  end : l.capture.end ≡ l.fn.capture.end;
}

abbrev pub decreases-records : goal.decreases-records
decreases-records l = length l.capture.records
