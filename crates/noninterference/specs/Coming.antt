-- What comes to a run, and what of it concerns a segment. It states no standard.
--     Inputs, IsRunOf      changes and captures, and a run over them
--     coming      what comes to the endpoint, in order
--     coming_to      of a source what concerns a segment in that run
--     IsTold, IsToldAsItIs, AreChangesTold      what comes from a source is what stands there
use Rattle.std.specs.Prelude.{◌≡◌, ◌≤◌, ℕ, ◌==◌, Bool, true, false, List, [], ◌∷◌, map, filter, Vec, Ok}
use Rattle.std.specs.declared.alloc.Global.{Global}
use Rattle.pcap.specs.Record.{Record}
use Rattle.timeline.specs.Events.{events_of}
use Rattle.timeline.specs.Timeline.{Timeline, told}
use Rattle.timeline.specs.declared.capture.Opened.{Opened}
use Rattle.timeline.specs.declared.source.Source.{Source}
use Rattle.timeline.specs.declared.source.Source.TheVariants as sources
use Rattle.timeline.specs.declared.source.Tap.{Tap}
use Rattle.timeline.specs.declared.source.Tap.TheVariants as taps
use Rattle.overlay.specs.Settings.{Settings}
use Rattle.overlay.specs.declared.settings.change.Change.{Change}
use Rattle.overlay.specs.declared.settings.change.TimedChange.{TimedChange}
use Rattle.endpoint_core.specs.Opened.{settings_told}
use Rattle.endpoint_core.specs.Event.{Input, FrameAt, Packet, Asks, Event, frame_at, packet_at, change_at}
use Rattle.endpoint_core.specs.Step.{opened}
use Rattle.capture_run.specs.Outputs.{Outputs, event_of}
use Rattle.capture_run.specs.Run.{run}
use Rattle.noninterference.specs.Alone.{only}

-- ---- what comes in

-- the changes with their moments, the captures of the ports, that of port 1 first, and that of the underlay
pub record Inputs : Type 0 where
  pub changes : List TimedChange
  pub ports : List (Vec ℕ Global)
  pub underlay : List ℕ

-- the changes alone
abbrev pub changes_of : Inputs → List Change
changes_of x = map (λ c. c.change) x.changes

-- with these settings the run over these inputs has this timeline, and these outputs come of it
pub record IsRunOf (s : Settings) (x : Inputs) (timeline : Timeline) (o : Outputs) : Type 0 where
  pub read : told (map (λ c. c.at) x.changes) x.ports x.underlay ≡ Ok timeline
  pub outputs : run (Ok s) (Ok x.changes) x.ports x.underlay ≡ Ok o

-- what comes to the endpoint: each change, and of each record its length and its octets, at the moment at which it is
-- read. That is the record's own where no moment of its capture falls, and else the greatest so far in its capture
abbrev pub coming : Inputs → Timeline → List Event
coming x timeline = map (event_of (changes_of x)) timeline.events

-- ---- by source

-- the changes, a port or the underlay
abbrev pub source_of : Input → Source
source_of (FrameAt port original b) = sources.Tap (taps.Port port)
source_of (Packet original b) = sources.Tap taps.Underlay
source_of (Asks c) = sources.Changes

-- the same tap
abbrev pub is_tap : Tap → Tap → Bool
is_tap (taps.Port port) (taps.Port other) = port == other
is_tap (taps.Port port) taps.Underlay = false
is_tap taps.Underlay (taps.Port port) = false
is_tap taps.Underlay taps.Underlay = true

-- the same source
abbrev pub is_source : Source → Source → Bool
is_source sources.Changes sources.Changes = true
is_source sources.Changes (sources.Tap tap) = false
is_source (sources.Tap tap) sources.Changes = false
is_source (sources.Tap tap) (sources.Tap other) = is_tap tap other

-- what comes from a source, in order
abbrev pub from_source : Source → List Event → List Event
from_source source es = filter (λ e. is_source source (source_of e.input)) es

-- ---- by segment

-- of a source the changes or the records that concern the segment in that run, in order
abbrev pub coming_to : ℕ → Settings → Inputs → Timeline → Source → List Event
coming_to vid s x timeline source = from_source source (only vid (opened (settings_told s)) (coming x timeline))

-- ---- by capture

-- what comes from a capture is its records, each at the greatest moment so far, in order
abbrev pub IsTold : Inputs → Timeline → Opened → Type 0
IsTold x timeline c = from_source (sources.Tap c.tap) (coming x timeline) ≡ map (event_of (changes_of x)) (events_of c)

-- moments of records that never fall, from this one on
abbrev pub NeverFall : ℕ → List Record → Type 0
NeverFall least [] = Unit {0}
NeverFall least (r ∷ rs) = (least ≤ r.moment) × NeverFall r.moment rs

-- a record as the endpoint takes it, at its own moment
abbrev pub taken_from : Tap → Record → Event
taken_from (taps.Port port) r = frame_at r.moment port r.original r.octets
taken_from taps.Underlay r = packet_at r.moment r.original r.octets

-- where its moments never fall, what comes from a capture is its records, each at its own moment, in order
abbrev pub IsToldAsItIs : Inputs → Timeline → Opened → Type 0
IsToldAsItIs x timeline c =
    NeverFall 0 c.capture.records
    → from_source (sources.Tap c.tap) (coming x timeline) ≡ map (taken_from c.tap) c.capture.records

-- ---- changes

-- moments of changes that never fall, from this one on
abbrev pub ChangesNeverFall : ℕ → List TimedChange → Type 0
ChangesNeverFall least [] = Unit {0}
ChangesNeverFall least (c ∷ cs) = (least ≤ c.at) × ChangesNeverFall c.at cs

-- where their moments never fall, what comes from the changes is each of them at its moment, in order
abbrev pub AreChangesTold : Inputs → Timeline → Type 0
AreChangesTold x timeline =
    ChangesNeverFall 0 x.changes
    → from_source sources.Changes (coming x timeline) ≡ map (λ c. change_at c.at c.change) x.changes
