-- What comes out of a whole run. It states no standard.
--     event_of      an event of the timeline as the endpoint takes it
--     outputs_of      the captures and the decision lines, by what each event is answered
--     outputs      the same by the separate bridges of the segments
use Rattle.std.specs.Prelude.{ℕ, ◌+◌, List, [], ◌∷◌, ◌++◌, map, slice_index_or, Option, None}
use Rattle.std.specs.List.{flat_map, zip}
use Rattle.timeline.specs.declared.event.Event.{Event as Happens}
use Rattle.timeline.specs.declared.event.Happening.{Happening}
use Rattle.timeline.specs.declared.event.Happening.TheVariants as happenings
use Rattle.timeline.specs.declared.source.Tap.TheVariants as taps
use Rattle.timeline.specs.Timeline.{Timeline}
use Rattle.timeline.specs.declared.timeline.Cut.{Cut}
use Rattle.overlay.specs.declared.settings.change.Change.{Change}
use Rattle.overlay.specs.declared.settings.change.Change.TheVariants.{PortUp}
use Rattle.endpoint_core.specs.Change.{named}
use Rattle.endpoint_core.specs.Settings.{Settings}
use Rattle.endpoint_core.specs.Event.{Input, FrameAt, Packet, Asks, Event}
use Rattle.endpoint_core.specs.Step.{Answer}
use Rattle.endpoint_core.specs.Run.{decisions}
use Rattle.decision_lines.specs.Lines.{line, answer_text, cut_line}
use Rattle.capture_run.specs.Sendings.{Sending, sent_by, port_captures, underlay_capture}

-- what comes out of a run: octets of captures, and decision lines
pub record Outputs : Type 0 where
  -- that of port 1 first
  pub ports : List (List ℕ)
  pub underlay : List ℕ
  pub decisions : List ℕ

-- ---- events

-- what stands for a change that isn't there
abbrev pub no_change : Change
no_change = PortUp 0

-- the change of this number in a list, from 0
abbrev pub change_at : List Change → ℕ → Change
change_at changes index = slice_index_or changes index no_change

-- what an event of the timeline asks of the endpoint
abbrev pub input_of : List Change → Happening → Input
input_of changes (happenings.Change index) = Asks (change_at changes index)
input_of changes (happenings.Record (taps.Port port) captured) = FrameAt port captured.original captured.octets
input_of changes (happenings.Record taps.Underlay captured) = Packet captured.original captured.octets

-- the same with its moment
abbrev pub event_of : List Change → Happens → Event
event_of changes e = record { at = e.moment; input = input_of changes e.happening }

-- the segment that an event names; a frame or packet names none
abbrev pub named_by : List Change → Happening → Option ℕ
named_by changes (happenings.Change index) = named (change_at changes index)
named_by changes (happenings.Record tap captured) = None

-- ---- what comes out, by events and what each is answered

-- the decision line of an event and its answer
abbrev pub line_of : List Change → ℕ → Happens × Answer → List ℕ
line_of changes number row = line number row.0 (answer_text (named_by changes row.0.happening) row.1)

-- the events are numbered on from this many
abbrev pub lines_of : List Change → ℕ → List (Happens × Answer) → List ℕ
lines_of changes count [] = []
lines_of changes count (row ∷ rows) = line_of changes (count + 1) row ++ lines_of changes (count + 1) rows

-- all that was sent, in order of events
abbrev pub sendings : List (Happens × Answer) → List Sending
sendings rows = flat_map (λ (row : Happens × Answer). sent_by row.0.moment row.1) rows

-- what comes out of events with their answers, and of captures with a cut rest
abbrev pub outputs_of : List Change → ℕ → List (Happens × Answer) → List Cut → Outputs
outputs_of changes ports rows cuts = record {
  ports = port_captures ports (sendings rows);
  underlay = underlay_capture (sendings rows);
  decisions = lines_of changes 0 rows ++ flat_map cut_line cuts;
}

-- what comes out of a run of these events on so many ports, each segment by a learning bridge of its own
abbrev pub outputs : Settings → List Change → ℕ → Timeline → Outputs
outputs S changes ports timeline =
    outputs_of changes ports (zip timeline.events (decisions S [] (map (event_of changes) timeline.events))) timeline.cuts
