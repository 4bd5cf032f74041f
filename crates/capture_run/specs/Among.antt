-- What comes out of a part of a run: of a run of which some segments are asked for. It states no standard.
--     with_events_among      the outputs as they grow, event by event: what isn't told to these segments leaves no text
--     outputs_among      the captures and the decision lines of a part
--     run_among      what a part of a run answers: what comes out of it, or the first fault
use Rattle.std.specs.Prelude.{ℕ, ◌+◌, ◌==◌, if◌then◌else◌, List, [], ◌∷◌, length, map, None, Vec, Result, Ok, Err}
use Rattle.std.specs.declared.alloc.Global.{Global}
use Rattle.segment_set.specs.Segments.{Segments, holds}
use Rattle.overlay_config.specs.Fault.{Meaning}
use Rattle.overlay_config.specs.Settings.{Settings as Asked}
use Rattle.overlay.specs.declared.settings.change.Change.{Change}
use Rattle.overlay.specs.declared.settings.change.TimedChange.{TimedChange}
use Rattle.timeline.specs.Timeline.{Timeline, told}
use Rattle.timeline.specs.declared.event.Event.{Event as Happens}
use Rattle.timeline.specs.declared.fault.TimelineFault.{TimelineFault}
use Rattle.timeline.specs.declared.timeline.Cut.{Cut}
use Rattle.endpoint_core.specs.Opened.{settings_told}
use Rattle.endpoint_core.specs.Settings.{Settings}
use Rattle.endpoint_core.specs.Among.{after_among, is_told}
use Rattle.endpoint_core.specs.Step.{State, answer, opened}
use Rattle.capture_run.specs.Fault.{of_timeline, of_settings, of_changes}
use Rattle.capture_run.specs.Outputs.{Outputs, event_of}
use Rattle.capture_run.specs.Writing.{empty_outputs, with_cuts, with_event}
use Rattle.capture_run.specs.declared.fault.RunFault.{RunFault}
use Rattle.capture_run.specs.declared.fault.RunFault.TheVariants as faults

-- after an event of this number, at an endpoint in this state
abbrev pub with_event_among : Segments → List Change → ℕ → State → Outputs → Happens → Outputs
with_event_among segments changes number s o e =
    if is_told segments s (event_of changes e) then with_event changes number o e (answer s (event_of changes e)) else o

-- after events behind so many others, which come to an endpoint in this state; each has its number, told or not
abbrev pub with_events_among : Segments → List Change → ℕ → State → Outputs → List Happens → Outputs
with_events_among segments changes count s o [] = o
with_events_among segments changes count s o (e ∷ es) =
    with_events_among segments changes (count + 1) (after_among segments s (event_of changes e))
    (with_event_among segments changes (count + 1) s o e) es

-- the lines of cut captures stand in the part that has what comes to no segment
abbrev pub cuts_among : Segments → List Cut → List Cut
cuts_among segments cuts = if holds segments None then cuts else []

-- what comes out of a part of a run of these events on so many ports
abbrev pub outputs_among : Segments → Settings → List Change → ℕ → Timeline → Outputs
outputs_among segments S changes ports timeline =
    with_cuts (with_events_among segments changes 0 (opened S) (empty_outputs ports) timeline.events) (cuts_among segments timeline.cuts)

-- ---- with its faults

-- with these settings and changes, by what the captures tell
abbrev pub by_timeline_among : Segments → Asked → List TimedChange → ℕ → Result Timeline TimelineFault → Result Outputs RunFault
by_timeline_among segments s changes ports (Ok timeline) =
    Ok (outputs_among segments (settings_told s) (map (λ c. c.change) changes) ports timeline)
by_timeline_among segments s changes ports (Err fault) = Err (of_timeline fault)

-- the same with the octets of the captures: the number of captures is asked first
abbrev pub with_texts_among : Segments → Asked → List TimedChange → List (Vec ℕ Global) → List ℕ → Result Outputs RunFault
with_texts_among segments s changes ports underlay =
    if length ports == length s.ports
    then by_timeline_among segments s changes (length ports) (told (map (λ c. c.at) changes) ports underlay)
    else Err faults.PortCount

-- the same with the settings, and what the changes mean
abbrev pub with_settings_among : Segments → Asked → Meaning (List TimedChange)
    → List (Vec ℕ Global) → List ℕ → Result Outputs RunFault
with_settings_among segments s (Ok changes) ports underlay = with_texts_among segments s changes ports underlay
with_settings_among segments s (Err fault) ports underlay = Err (of_changes fault)

-- by what the settings and the changes mean, with the faults of a whole run in their order
abbrev pub run_among : Segments → Meaning Asked → Meaning (List TimedChange)
    → List (Vec ℕ Global) → List ℕ → Result Outputs RunFault
run_among segments (Ok s) changes ports underlay = with_settings_among segments s changes ports underlay
run_among segments (Err fault) changes ports underlay = Err (of_settings fault)
