-- What is counted of decision lines: each line counts one more at the places that it tells, and leaves all other counts as
-- they were. It states no standard.
--     no_counts      before the first line
--     counted      one line more
use Rattle.std.specs.Prelude.{ℕ, List, fold, take}
use Rattle.report_counts.specs.Tables.{added, with_more, zeros}
use Rattle.report_counts.specs.Outcomes.{Told}
use Rattle.report_counts.specs.Places.{mark_of, source_number}
use Rattle.report_counts.specs.Outlets.{no_outlets, row_of, with_passage}
use Rattle.report_counts.specs.Rows.{no_pairs, no_reasons, no_segments, no_sources, with_drop_for, with_drop_in, with_event_from}
use Rattle.report_counts.specs.Rows.{with_event_in, with_pair, with_sent_in, with_unsent_for}
use Rattle.report_counts.specs.Firsts.{none_yet, with_first}
use Rattle.timeline.specs.declared.source.Source.TheVariants as sources
use Rattle.timeline.specs.declared.source.Tap.{Tap}
use Rattle.report_counts.specs.declared.counts.ReportCounts.{ReportCounts}
use Rattle.report_counts.specs.declared.drops.FirstDrop.{FirstDrop}
use Rattle.report_counts.specs.declared.line.EventLine.{EventLine}
use Rattle.report_counts.specs.declared.line.Outcome.{Outcome}
use Rattle.report_counts.specs.declared.line.Outcome.TheVariants.{Sent, Dropped, Done, Refused}
use Rattle.report_counts.specs.declared.line.ReportLine.{ReportLine}
use Rattle.report_counts.specs.declared.line.ReportLine.TheVariants.{Event, Cut}
use Rattle.report_counts.specs.declared.mark.Mark.{Mark}
use Rattle.report_counts.specs.declared.outcomes.Passage.{Passage}
use Rattle.report_counts.specs.declared.outcomes.Passage.TheVariants.{Left, Unsent}

-- before the first line, of lines from one moment to another
abbrev pub no_counts : ℕ → ℕ → ReportCounts
no_counts first last = record {
  stretch = record { first = first; last = last };
  events = 0;
  done = 0;
  refused = zeros 256;
  sent = 0;
  unsent = 0;
  dropped = 0;
  sources = no_sources;
  outlets = no_outlets;
  segments = no_segments;
  reasons = no_reasons;
  pairs = no_pairs;
  first_drops = none_yet 41;
  cuts = none_yet 257;
}

-- one more of a count
abbrev pub one_more : ℕ → ℕ
one_more count = with_more 1 count

-- ---- events

-- an event came
unfoldable pub with_coming : Mark → ReportCounts → ReportCounts
with_coming mark c = record c {
  events = one_more c.events;
  sources = with_event_from mark.source mark.span c.sources;
  segments = with_event_in mark.segment mark.span c.segments;
}

-- what is told of the first event for which a reason was met
abbrev pub drop_of : EventLine → ℕ → FirstDrop
drop_of e reason = record {
  event = e.event;
  moment = e.moment;
  source = e.source;
  number = e.number;
  segment = e.segment;
  reason = reason;
}

-- it was dropped for a reason
unfoldable pub with_drop_at : Mark → EventLine → ℕ → ReportCounts → ReportCounts
with_drop_at mark e reason c = record c {
  dropped = one_more c.dropped;
  segments = with_drop_in mark.segment mark.span c.segments;
  reasons = with_drop_for mark.segment reason mark.span c.reasons;
  first_drops = with_first reason (drop_of e reason) c.first_drops;
}

-- ---- outcomes

-- a frame left at the outlet of a row
unfoldable pub with_sent : Mark → ℕ → ℕ → ReportCounts → ReportCounts
with_sent mark outlet octets c = record c {
  sent = one_more c.sent;
  segments = with_sent_in mark.segment c.segments;
  pairs = with_pair mark.source outlet octets c.pairs;
}

-- it didn't leave, for a reason
unfoldable pub with_unsent : Mark → EventLine → ℕ → ReportCounts → ReportCounts
with_unsent mark e reason c = record c {
  unsent = one_more c.unsent;
  reasons = with_unsent_for mark.segment reason mark.span c.reasons;
  first_drops = with_first reason (drop_of e reason) c.first_drops;
}

-- either of them, at the outlet of a row
abbrev pub with_fate : Mark → EventLine → ℕ → Passage → ReportCounts → ReportCounts
with_fate mark e outlet (Left octets) c = with_sent mark outlet octets c
with_fate mark e outlet (Unsent reason) c = with_unsent mark e reason c

-- a place's outlet counts it
abbrev pub with_outlet : Mark → Told → ReportCounts → ReportCounts
with_outlet mark o c = record c { outlets = with_passage o.place o.passage mark.span c.outlets }

-- what came of a frame at a place
unfoldable pub with_leaving : Mark → EventLine → Told → ReportCounts → ReportCounts
with_leaving mark e o c =
    with_fate mark e (row_of (take 55 o.place) (with_outlet mark o c).outlets.names) o.passage (with_outlet mark o c)

-- at each of its places
abbrev pub with_outcomes : Mark → EventLine → List Told → ReportCounts → ReportCounts
with_outcomes mark e outcomes c = fold (λ counts o. with_leaving mark e o counts) c outcomes

-- ---- lines

-- what came of an event
abbrev pub with_result : Mark → EventLine → Outcome → ReportCounts → ReportCounts
with_result mark e (Sent outcomes) c = with_outcomes mark e outcomes c
with_result mark e (Dropped reason) c = with_drop_at mark e reason c
with_result mark e Done c = record c { done = one_more c.done }
with_result mark e (Refused cause) c = record c { refused = added cause 1 c.refused }

-- by its line
abbrev pub with_answer : Mark → EventLine → ReportCounts → ReportCounts
with_answer mark e c = with_result mark e e.result c

-- an event came, and what came of it
abbrev pub with_event : EventLine → ReportCounts → ReportCounts
with_event e c = with_answer (mark_of c.stretch e) e (with_coming (mark_of c.stretch e) c)

-- a capture is cut behind so many whole records
abbrev pub with_cut : Tap → ℕ → ReportCounts → ReportCounts
with_cut tap records c = record c { cuts = with_first (source_number (sources.Tap tap)) records c.cuts }

-- one line more; that of a cut capture tells how many whole records it has
abbrev pub counted : ReportLine → ReportCounts → ReportCounts
counted (Event e) c = with_event e c
counted (Cut tap records) c = with_cut tap records c
