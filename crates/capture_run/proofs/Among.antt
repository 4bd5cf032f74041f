-- The part of a run that has all segments is the whole run.
use Rattle.std.proofs.Common.{◌≡◌, ◌∙◌, refl, ap, ℕ, ◌+◌, ◌==◌, if◌then◌else◌, Bool, true, false, List, [], ◌∷◌, length, map, Vec, Global, None, Result, Ok, Err}
use Rattle.segment_set.specs.Segments.{Segments, All, holds}
use Rattle.overlay_config.specs.Fault.{Meaning}
use Rattle.overlay_config.specs.Settings.{Settings as Asked}
use Rattle.overlay.specs.declared.settings.change.Change.{Change}
use Rattle.overlay.specs.declared.settings.change.TimedChange.{TimedChange}
use Rattle.timeline.proofs.Orders.{rising_merged}
use Rattle.timeline.specs.Events.{all_events as all_events_of}
use Rattle.timeline.specs.Faults.{faults_of}
use Rattle.timeline.specs.Inputs.{inputs, opened_captures}
use Rattle.timeline.specs.Order.{IsRising, merged}
use Rattle.timeline.specs.Timeline.{Timeline, cuts_of, told, if_faultless}
use Rattle.timeline.specs.declared.event.Event.{Event as Happens}
use Rattle.timeline.specs.declared.fault.TimelineFault.{TimelineFault}
use Rattle.timeline.specs.declared.timeline.Cut.{Cut}
use Rattle.endpoint_core.specs.Opened.{settings_told}
use Rattle.endpoint_core.specs.Settings.{Settings}
use Rattle.endpoint_core.specs.Among.{after_among, after_untold, after_untold_input, is_told}
use Rattle.endpoint_core.specs.Event.{Input, FrameAt, Packet, Asks, Event}
use Rattle.endpoint_core.specs.Step.{State, after, answer, opened}
use Rattle.capture_run.specs.Among.{by_timeline_among, cuts_among, outputs_among, run_among, with_events_among}
use Rattle.capture_run.specs.Outputs.{Outputs, event_of, outputs}
use Rattle.capture_run.specs.Run.{by_timeline, run}
use Rattle.capture_run.specs.Writing.{empty_outputs, with_cuts, with_event, with_events}
use Rattle.capture_run.specs.declared.fault.RunFault.{RunFault}
use Rattle.capture_run.specs.declared.fault.RunFault.TheVariants as faults
use Rattle.capture_run.proofs.Changes.{ports_stay}
use Rattle.capture_run.proofs.Growing.{outputs_grown}

pub all_events : (changes : List Change) (count : ℕ) (s : State) (o : Outputs) (es : List Happens) → with_events_among All changes count s o es ≡ with_events changes count s o es
all_events changes count s o [] = refl
all_events changes count s o (e ∷ es) =
    all_events changes (count + 1) (after s (event_of changes e)) (with_event changes (count + 1) o e (answer s (event_of changes e))) es

pub all_outputs : (S : Settings) (changes : List Change) (n : ℕ) (timeline : Timeline) → IsRising 0 timeline.events → outputs_among All S changes n timeline ≡ outputs S changes n timeline
all_outputs S changes n timeline rising =
    ap (λ o. with_cuts o timeline.cuts) (all_events changes 0 (opened S) (empty_outputs n) timeline.events) ∙ outputs_grown S changes n timeline rising

-- ---- with its faults

-- the same with what the captures tell
all_by_timeline : (s : Asked) (changes : List TimedChange) (n : ℕ) (timeline : Timeline) (others : List TimelineFault) → IsRising 0 timeline.events
    → by_timeline_among All s changes n (if_faultless others timeline) ≡ by_timeline s changes n (if_faultless others timeline)
all_by_timeline s changes n timeline [] rising =
    ap (λ (o : Outputs). let r : Result Outputs RunFault = Ok o in r) (all_outputs (settings_told s) (map (λ (c : TimedChange). c.change) changes) n timeline rising)
all_by_timeline s changes n timeline (fault ∷ others) rising = refl

all_told : (s : Asked) (changes : List TimedChange) (n : ℕ) (ports : List (Vec ℕ Global)) (underlay : List ℕ)
    → by_timeline_among All s changes n (told (map (λ (c : TimedChange). c.at) changes) ports underlay) ≡ by_timeline s changes n (told (map (λ (c : TimedChange). c.at) changes) ports underlay)
unfolding told
all_told s changes n ports underlay =
    let captures = opened_captures (inputs ports underlay) in
    let events = all_events_of (map (λ (c : TimedChange). c.at) changes) captures in
    all_by_timeline s changes n (record { events = merged events; cuts = cuts_of captures }) (faults_of (inputs ports underlay)) (rising_merged events)

pub all_run : (s : Meaning Asked) (c : Meaning (List TimedChange)) (ports : List (Vec ℕ Global)) (underlay : List ℕ) → run_among All s c ports underlay ≡ run s c ports underlay
all_run (Err fault) c ports underlay = refl
all_run (Ok s) (Err fault) ports underlay = refl
all_run (Ok s) (Ok changes) ports underlay = ap (λ r. if length ports == length s.ports then r else Err faults.PortCount) (all_told s changes (length ports) ports underlay)

-- as many captures as ports
pub ports_counted_among : (segments : Segments) (s : Asked) (changes : List TimedChange) (ports : List (Vec ℕ Global)) (underlay : List ℕ) → (length ports == length s.ports) ≡ true
    → run_among segments (Ok s) (Ok changes) ports underlay ≡ by_timeline_among segments s changes (length ports) (told (map (λ (c : TimedChange). c.at) changes) ports underlay)
ports_counted_among segments s changes ports underlay h = rw h refl

-- ---- what stays

untold_moment : (t : ℕ) (s : State) (input : Input) → (after_untold_input t s input).moment ≡ t
untold_moment t s (FrameAt port original b) = refl
untold_moment t s (Packet original b) = refl
untold_moment t s (Asks c) = refl

-- told or not, an event leaves its moment
pub moment_among : (segments : Segments) (s : State) (e : Event) → (after_among segments s e).moment ≡ e.at
moment_among segments s e = by (is_told segments s e)
  where
    by : (b : Bool) → (if b then after s e else after_untold s e).moment ≡ e.at
    by true = refl
    by false = untold_moment e.at s e.input

untold_ports : (t : ℕ) (s : State) (input : Input) → length (after_untold_input t s input).bridges.settings.ports.ports ≡ length s.bridges.settings.ports.ports
untold_ports t s (FrameAt port original b) = refl
untold_ports t s (Packet original b) = refl
untold_ports t s (Asks c) = ports_stay s (record { at = t; input = Asks c })

-- and as many ports
pub ports_stay_among : (segments : Segments) (s : State) (e : Event) → length (after_among segments s e).bridges.settings.ports.ports ≡ length s.bridges.settings.ports.ports
ports_stay_among segments s e = by (is_told segments s e)
  where
    by : (b : Bool) → length (if b then after s e else after_untold s e).bridges.settings.ports.ports ≡ length s.bridges.settings.ports.ports
    by true = ports_stay s e
    by false = untold_ports e.at s e.input

-- no cut capture has no line
pub no_cuts_among : (segments : Segments) → cuts_among segments [] ≡ []
no_cuts_among segments = by (holds segments None)
  where
    by : (b : Bool) → ◌≡◌ {A = List Cut} (if b then [] else []) []
    by true = refl
    by false = refl
