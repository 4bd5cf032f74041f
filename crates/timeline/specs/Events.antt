-- The events of each source. It states no standard.
use Rattle.std.specs.Prelude.{◌≡◌, ◌<◌, ◌≤◌, ℕ, ◌+◌, ◌^◌, max, List, [], ◌∷◌, ◌++◌, length, slice_get, take, option_map}
use Rattle.std.specs.List.{flat_map}
use Rattle.pcap.specs.Record.{Record, last_moment, longest}
use Rattle.timeline.specs.Captured.{Captured}
use Rattle.timeline.specs.declared.capture.Opened.{Opened}
use Rattle.timeline.specs.declared.event.Event.{Event}
use Rattle.timeline.specs.declared.event.Happening.{Happening}
use Rattle.timeline.specs.declared.event.Happening.TheVariants as happenings
use Rattle.timeline.specs.declared.source.Tap.{Tap}
use Rattle.timeline.specs.declared.source.Tap.TheVariants.{Port, Underlay}

-- changes from this index on, at their moments
abbrev pub change_events : ℕ → List ℕ → List Event
change_events index [] = []
change_events index (moment ∷ moments) =
    record { moment = moment; number = index + 1; happening = happenings.Change index } ∷ change_events (index + 1) moments

-- records behind so many others, each at the greatest moment so far
abbrev pub record_events : Tap → ℕ → ℕ → List Record → List Event
record_events tap count latest [] = []
record_events tap count latest (r ∷ rs) =
    record {
      moment = max r.moment latest;
      number = count + 1;
      happening = happenings.Record tap (record { original = r.original; octets = r.octets });
    }
    ∷ record_events tap (count + 1) (max r.moment latest) rs

-- the events of a capture, one for each record
abbrev pub events_of : Opened → List Event
events_of c = record_events c.tap 0 0 c.capture.records

-- the greatest moment of some records, or 0
abbrev pub greatest : List Record → ℕ
greatest [] = 0
greatest (r ∷ rs) = max r.moment (greatest rs)

-- the event of a record that is the last one of these in its capture
abbrev pub event_behind : Tap → List Record → Record → Event
event_behind tap rs r = record {
  moment = greatest rs;
  number = length rs;
  happening = happenings.Record tap (record { original = r.original; octets = r.octets });
}

-- a law: the events of a capture are its records, each with its number from 1 and at the greatest moment up to its own
abbrev pub TellsEachRecord : Type 0
TellsEachRecord =
    (c : Opened) (k : ℕ)
    → slice_get (events_of c) k
    ≡ option_map (event_behind c.tap (take (k + 1) c.capture.records)) (slice_get c.capture.records k)

-- the events of all sources: the changes, and then those of the captures in their order
abbrev pub all_events : List ℕ → List Opened → List Event
all_events changes captures = change_events 0 changes ++ flat_map events_of captures

-- what is known of the events of a run with so many changes and ports
abbrev pub IsTapOf : ℕ → Tap → Type 0
IsTapOf ports (Port port) = (1 ≤ port) × (port ≤ ports)
IsTapOf ports Underlay = Unit {0}

-- a record of a capture as an event has it, on so many ports
pub record IsRecordOf (ports instant : ℕ) (place : Tap) (c : Captured) : Type 0 where
  pub moment : instant ≤ last_moment
  pub tap : IsTapOf ports place
  pub original : c.original < 2 ^ 32
  pub octets : length c.octets ≤ longest

-- what can happen in a run with so many changes and ports
abbrev pub HappensIn : ℕ → ℕ → ℕ → Happening → Type 0
HappensIn changes ports moment (happenings.Change index) = index < changes
HappensIn changes ports moment (happenings.Record tap c) = IsRecordOf ports moment tap c

-- an event of such a run
abbrev pub IsEventOf : ℕ → ℕ → Event → Type 0
IsEventOf changes ports e = HappensIn changes ports e.moment e.happening
