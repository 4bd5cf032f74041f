-- The law of reading: what is written in a decision line is what is read from it. It states no standard.
use Rattle.std.specs.Prelude.{◌≡◌, ◌<◌, ℕ, ◌^◌, Option, Some, None, Ok}
use Rattle.wire.specs.Reason.{number_of}
use Rattle.wire.specs.declared.ether.reason.Reason.{Reason}
use Rattle.endpoint_core.specs.Fault.{number_of as cause_of}
use Rattle.endpoint_core.specs.declared.state.fault.ChangeFault.{ChangeFault}
use Rattle.endpoint_core.specs.Decision.{Decision}
use Rattle.endpoint_core.specs.Step.{Decided, Replied}
use Rattle.timeline.specs.Words.{source_of}
use Rattle.timeline.specs.declared.event.Event.{Event as AnEvent}
use Rattle.timeline.specs.declared.source.Source.{Source}
use Rattle.timeline.specs.declared.source.Source.TheVariants as sources
use Rattle.timeline.specs.declared.source.Tap.TheVariants.{Port, Underlay}
use Rattle.decision_lines.specs.Lines.{answer_text, line}
use Rattle.report_counts.specs.Lines.{line_of}
use Rattle.report_counts.specs.declared.line.EventLine.{EventLine}
use Rattle.report_counts.specs.declared.line.Outcome.{Outcome}
use Rattle.report_counts.specs.declared.line.Outcome.TheVariants.{Dropped, Done, Refused}
use Rattle.report_counts.specs.declared.line.ReportLine.TheVariants.{Event}

-- ---- lines as they can be

-- a source whose port has such a number
abbrev pub IsSource : Source → Type 0
IsSource sources.Changes = Unit {0}
IsSource (sources.Tap (Port port)) = (0 < port) × (port < 256)
IsSource (sources.Tap Underlay) = Unit {0}

-- the VID of a segment, where there is one
abbrev pub IsVid : Option ℕ → Type 0
IsVid (Some vid) = (0 < vid) × (vid < 4095)
IsVid None = Unit {0}

-- numbers as a program counts them
pub record IsFront (count : ℕ) (e : AnEvent) : Type 0 where
  pub number : count < 2 ^ 64
  pub moment : e.moment < 2 ^ 64
  pub own : e.number < 2 ^ 64
  pub source : IsSource (source_of e.happening)

-- ---- what is read

-- the line of an event in a segment, with what came of it
abbrev pub read_of : ℕ → AnEvent → Option ℕ → Outcome → EventLine
read_of count e segment result = record {
  event = count;
  moment = e.moment;
  source = source_of e.happening;
  number = e.number;
  segment = segment;
  result = result;
}

-- a change was made, or refused for a cause
abbrev pub reply_of : Option ChangeFault → Outcome
reply_of None = Done
reply_of (Some fault) = Refused (cause_of fault)

-- ---- the laws

-- a drop: all of its line's fields, and the number of its reason
abbrev pub ReadsBackDrops : Type 0
ReadsBackDrops =
    (count : ℕ) (e : AnEvent) (d : Decision) (reason : Reason)
    → IsFront count e
    → IsVid d.segment
    → d.dropped ≡ Some reason
    → line_of (line count e (answer_text None (Decided d))) ≡ Ok (Event (read_of count e d.segment (Dropped (number_of reason))))

-- a change: all of its line's fields, and whether it was made, or the number of the cause
abbrev pub ReadsBackReplies : Type 0
ReadsBackReplies =
    (count : ℕ) (e : AnEvent) (named : Option ℕ) (fault : Option ChangeFault)
    → IsFront count e
    → IsVid named
    → line_of (line count e (answer_text named (Replied fault))) ≡ Ok (Event (read_of count e named (reply_of fault)))
