-- The events of a run that are still to come, by the octets of its captures; they serve the contract of its steps.
--     source_events      those of each source: the changes, the ports rising, the underlay
--     coming      those that have not come yet, in order of moment
--     records_among      how many of some events are records of a capture
use Rattle.std.specs.Prelude.{◌≡◌, ◌==◌, ℕ, ◌+◌, Bool, true, false, if◌then◌else◌, List, [], ◌∷◌, ◌++◌, drop, map, Result, Ok, Err}
use Rattle.pcap.specs.Capture.{opened}
use Rattle.pcap.specs.Reading.{Reading}
use Rattle.pcap.specs.declared.text.header.CaptureFault.{CaptureFault}
use Rattle.overlay.specs.declared.settings.change.TimedChange.{TimedChange}
use Rattle.timeline.specs.Events.{change_events, events_of}
use Rattle.timeline.specs.Order.{merged}
use Rattle.timeline.specs.Words.{source_of}
use Rattle.timeline.specs.declared.event.Event.{Event}
use Rattle.timeline.specs.declared.source.Source.{Source}
use Rattle.timeline.specs.declared.source.Source.TheVariants as sources
use Rattle.timeline.specs.declared.source.Tap.{Tap}
use Rattle.timeline.specs.declared.source.Tap.TheVariants as taps
use Rattle.stream_run.specs.declared.turn.Turn.{Turn}

-- ---- of each source

-- those of the whole records of a capture, if it can be opened
abbrev pub events_by : Tap → Result Reading CaptureFault → List Event
events_by tap (Ok reading) = events_of (record { tap = tap; capture = reading })
events_by tap (Err fault) = []

-- of the captures of the ports, rising from this one, and of the underlay
abbrev pub capture_events : ℕ → List (List ℕ) → List ℕ → List (List Event)
capture_events port [] text = events_by taps.Underlay (opened text) ∷ []
capture_events port (octets ∷ others) text = events_by (taps.Port port) (opened octets) ∷ capture_events (port + 1) others text

-- of each source: the changes, and then the captures
abbrev pub source_events : List TimedChange → List (List ℕ) → List ℕ → List (List Event)
source_events changes texts text = change_events 0 (map (λ (c : TimedChange). c.at) changes) ∷ capture_events 1 texts text

-- ---- to come

-- those that are left of each source, source by source: the first ones came
abbrev pub left_behind : List Turn → List (List Event) → List Event
left_behind [] sources = []
left_behind (t ∷ ts) [] = []
left_behind (t ∷ ts) (es ∷ others) = drop t.done es ++ left_behind ts others

-- the same of all sources, in order of moment
abbrev pub coming : List TimedChange → List (List ℕ) → List ℕ → List Turn → List Event
coming changes texts text turns = merged (left_behind turns (source_events changes texts text))

-- ---- one of them

-- it is the record before that of this number
pub record IsRecordBefore (place : Tap) (n : ℕ) (e : Event) : Type 0 where
  pub source : source_of e.happening ≡ sources.Tap place
  pub number : e.number + 1 ≡ n

-- none of some events stands behind it; there is none of them where no record is before that of this number
pub record NoneBehind (place : Tap) (n : ℕ) (es : List Event) : Type 0 where
  pub none : n ≡ 1 → es ≡ []
  pub last : (others behind : List Event) (e : Event) → es ≡ others ++ e ∷ behind → IsRecordBefore place n e → behind ≡ []

-- the last of some events is
pub record EndBefore (place : Tap) (n : ℕ) (es : List Event) : Type 0 where
  pub others : List Event
  pub last : Event
  pub ends : es ≡ others ++ last ∷ []
  pub is_before : IsRecordBefore place n last

-- ---- how many

-- two places are one
abbrev pub is_place : Tap → Tap → Bool
is_place (taps.Port p) (taps.Port q) = p == q
is_place (taps.Port p) taps.Underlay = false
is_place taps.Underlay (taps.Port q) = false
is_place taps.Underlay taps.Underlay = true

-- an event comes from this capture
abbrev pub is_from : Tap → Source → Bool
is_from place sources.Changes = false
is_from place (sources.Tap other) = is_place place other

-- how many of some events are records of this capture
abbrev pub records_among : Tap → List Event → ℕ
records_among place [] = 0
records_among place (e ∷ es) = (if is_from place (source_of e.happening) then 1 else 0) + records_among place es
