-- What the outputs of a run over streams hold, also where it stopped, by what leaves and what is told. It states no standard.
--     whole      all that comes to a run: its changes, and of each capture the records in front of its first fault
--     AreFirst      the first events of a run, and with all of them the captures that are cut
--     Hold      the outputs hold the records and the lines of some events
use Rattle.std.specs.Prelude.{◌≡◌, ◌⊎◌, List, [], ◌++◌, length}
use Rattle.std.specs.List.{flat_map}
use Rattle.pcap.specs.Written.{written}
use Rattle.timeline.specs.Events.{IsTapOf}
use Rattle.timeline.specs.Timeline.{Timeline}
use Rattle.timeline.specs.declared.event.Event.{Event as Happens}
use Rattle.timeline.specs.declared.source.Tap.{Tap}
use Rattle.overlay.specs.Settings.{Settings as Told}
use Rattle.decision_lines.specs.Lines.{cut_line}
use Rattle.capture_run.specs.Outputs.{Outputs}
use Rattle.stream_run.specs.Over.{whole_records}
use Rattle.stream_run.specs.Stage.{Drains, StandAt}
use Rattle.noninterference.specs.Coming.{Inputs}
use Rattle.noninterference.specs.Leaving.{rows_of, departures, records_at, capture_at, numbered, line_text}

-- the events of the changes and of the whole records of all captures, those in front of each one's first fault, in order, and
-- the captures that are cut. Where no capture has a fault it is what `told` answers
abbrev pub whole : Inputs → Timeline
whole x = whole_records x.changes x.ports x.underlay

-- of these the first events, without the captures that are cut, or all of them with these or without
pub record AreFirst (l : Timeline) (x : Inputs) : Type 0 where
  pub later : List Happens
  pub events : l.events ++ later ≡ (whole x).events
  pub cuts : (l.cuts ≡ []) ⊎ ((later ≡ []) × (l.cuts ≡ (whole x).cuts))

-- more than before, each output capture holds its header and a record for each departure of these events, and the decision
-- lines are theirs, numbered, and behind them those of the captures that are cut; and no output holds more, and none failed
pub record Hold (s : Told) (x : Inputs) (l : Timeline) (old new : Drains) : Type 0 where
  pub texts : Outputs
  pub stand : StandAt old new texts
  pub captures : (output : Tap) → IsTapOf (length x.ports) output
      → capture_at output texts ≡ written (records_at output (departures (rows_of s x l)))
  pub decisions : texts.decisions ≡ flat_map line_text (numbered 0 l.events (rows_of s x l)) ++ flat_map cut_line l.cuts
