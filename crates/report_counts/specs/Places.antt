-- Where an event is counted: by the numbers of its source, its segment and its span. It states no standard.
use Rattle.std.specs.Prelude.{ℕ, ◌+◌, ◌-◌, ◌/◌, Option, Some, None}
use Rattle.timeline.specs.declared.source.Source.{Source}
use Rattle.timeline.specs.declared.source.Source.TheVariants as sources
use Rattle.timeline.specs.declared.source.Tap.TheVariants.{Port, Underlay}
use Rattle.report_counts.specs.declared.line.EventLine.{EventLine}
use Rattle.report_counts.specs.declared.mark.Mark.{Mark}
use Rattle.report_counts.specs.declared.mark.Stretch.{Stretch}

-- the changes are 0, ports their own number, and the underlay 256
abbrev pub source_number : Source → ℕ
source_number sources.Changes = 0
source_number (sources.Tap (Port port)) = port
source_number (sources.Tap Underlay) = 256

-- a segment is its VID, and none is 0
abbrev pub segment_number : Option ℕ → ℕ
segment_number (Some vid) = vid
segment_number None = 0

-- how long a span is, in nanoseconds: so that 64 of them reach the last moment
abbrev pub width : Stretch → ℕ
width stretch = (stretch.last - stretch.first) / 64 + 1

-- the span of a moment
abbrev pub span_at : Stretch → ℕ → ℕ
span_at stretch moment = (moment - stretch.first) / width stretch

-- where an event is counted
abbrev pub mark_of : Stretch → EventLine → Mark
mark_of stretch e = record {
  source = source_number e.source;
  segment = segment_number e.segment;
  span = span_at stretch e.moment;
}
