-- The law of reading: what is written in a decision line is what is read from it. It states no standard.
use Rattle.std.specs.Prelude.{◌≡◌, ◌<◌, ℕ, ◌^◌, List, [], length, IfOk, Option, Some, None, Result, Ok, Err}
use Rattle.std.specs.List.{AllByRecursion, filter_map}
use Rattle.wire.specs.declared.ether.reason.Reason.{Reason}
use Rattle.wire.specs.Addr.{IsAddr}
use Rattle.filter_db.specs.declared.place.Place.{Place}
use Rattle.filter_db.specs.declared.place.Place.TheVariants.{Local, Remote}
use Rattle.endpoint_core.specs.declared.state.fault.ChangeFault.{ChangeFault}
use Rattle.endpoint_core.specs.Decision.{Sent, Decision}
use Rattle.endpoint_core.specs.Step.{Decided, Replied}
use Rattle.timeline.specs.Words.{source_of}
use Rattle.timeline.specs.declared.event.Event.{Event}
use Rattle.timeline.specs.declared.source.Source.{Source}
use Rattle.timeline.specs.declared.source.Source.TheVariants as sources
use Rattle.timeline.specs.declared.source.Tap.{Tap}
use Rattle.timeline.specs.declared.source.Tap.TheVariants.{Port, Underlay}
use Rattle.timeline.specs.declared.timeline.Cut.{Cut}
use Rattle.decision_lines.specs.Lines.{answer_text, cut_line, line}
use Rattle.part_lines.specs.Facts.{facts_of}
use Rattle.part_lines.specs.declared.facts.LineFacts.TheVariants as facts

-- ---- what a merge is to know

-- the capture that takes what is sent at a place
abbrev pub tap_at : Place → Tap
tap_at (Local port) = Port port
tap_at (Remote kind addr) = Underlay

-- where something left
abbrev pub taken_at : Place → Result (List ℕ) Reason → Option Tap
taken_at place (Ok octets) = Some (tap_at place)
taken_at place (Err reason) = None

-- the capture that an outcome puts a record into, where it does
abbrev pub taken_by : Sent → Option Tap
taken_by o = taken_at o.place o.sent

-- the captures that a decision puts records into, in order
abbrev pub taken_from : Option Reason → List Sent → List Tap
taken_from (Some reason) outcomes = []
taken_from None outcomes = filter_map taken_by outcomes

-- ---- lines as they can be

-- the number of a port, and an address
abbrev pub IsPlace : Place → Type 0
IsPlace (Local port) = port < 256
IsPlace (Remote kind addr) = IsAddr addr

-- an outcome at such a place, of so many octets as can be counted
abbrev pub IsOutcome : Sent → Type 0
IsOutcome o = IsPlace o.place × IfOk o.sent (λ octets. length octets < 2 ^ 64)

-- a source whose port has such a number
abbrev pub IsSource : Source → Type 0
IsSource sources.Changes = Unit {0}
IsSource (sources.Tap (Port port)) = port < 256
IsSource (sources.Tap Underlay) = Unit {0}

-- the VID of a segment, where there is one
abbrev pub IsVid : Option ℕ → Type 0
IsVid (Some vid) = vid < 2 ^ 12
IsVid None = Unit {0}

-- numbers as a program counts them
pub record IsFront (count : ℕ) (e : Event) : Type 0 where
  pub number : count < 2 ^ 64
  pub moment : e.moment < 2 ^ 64
  pub own : e.number < 2 ^ 64
  pub source : IsSource (source_of e.happening)

-- ---- the laws

-- a decision: the number of its event, and just the captures that take a record of it
abbrev pub ReadsBackDecisions : Type 0
ReadsBackDecisions =
    (number : ℕ) (e : Event) (d : Decision)
    → IsFront number e
    → IsVid d.segment
    → AllByRecursion IsOutcome d.outcomes
    → facts_of (line number e (answer_text None (Decided d))) ≡ Ok (facts.Event number (taken_from d.dropped d.outcomes))

-- a change: the number of its event, and nothing is sent
abbrev pub ReadsBackReplies : Type 0
ReadsBackReplies =
    (number : ℕ) (e : Event) (named : Option ℕ) (fault : Option ChangeFault)
    → IsFront number e
    → IsVid named
    → facts_of (line number e (answer_text named (Replied fault))) ≡ Ok (facts.Event number [])

-- a cut rest: no event
abbrev pub ReadsBackCuts : Type 0
ReadsBackCuts = (cut : Cut) → facts_of (cut_line cut) ≡ Ok facts.Cut
