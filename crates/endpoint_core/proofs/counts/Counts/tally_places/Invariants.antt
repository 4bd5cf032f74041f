use Rattle.std.proofs.Common.{◌≡◌, ◌<◌, drop, length, map, Some}
use Rattle.endpoint_core.specs.Held.{settings_of}
use Rattle.endpoint_core.specs.Cells.{count_in}
use Rattle.endpoint_core.specs.Counts.{counted_all, marks_all}
use Rattle.endpoint_core.specs.Step.{sent_at}
use Rattle.endpoint_core.proofs.counts.Counts.tally_places.Given as goal

-- the row is there, and what is left to count makes the whole
abbrev pub invariant-loop-place : goal.invariant-loop-place
invariant-loop-place l = record {
  there : l.vid < length l.self.segments;
  left : counted_all (count_in l.self) (marks_all (Some l.vid) (map (sent_at (settings_of l.state) l.vid l.frame) (drop l.place-index l.places)))
      ≡ counted_all (count_in l.fn.self) (marks_all (Some l.vid) (map (sent_at (settings_of l.state) l.vid l.frame) l.places));
}
