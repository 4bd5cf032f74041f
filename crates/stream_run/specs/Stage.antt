-- How far the outputs of a run have come. It states no standard.
--     Stage      nothing, the headers and the first events, or everything
--     ComesNext      the stage behind one: the headers, one event more, the lines of the cut captures
--     stage_texts      the texts of a stage, of what is taken in of its events
--     StandBetween      what the outputs hold more than before: at least the one texts, and at most the others
--     LinesComeLast      no line stands there before all that leaves does
use Rattle.std.specs.Prelude.{◌≡◌, ◌⊎◌, ◌<◌, ◌≤◌, ℕ, ◌+◌, ◌-◌, ⊤, Bool, false, List, [], length}
use Rattle.std.specs.Prelude.{replicate, take, slice_index_or, map, Result, Ok, Err}
use Rattle.std.specs.Io.KnownBytes.{Appends}
use Rattle.pcap.specs.Counts.{GoesOnBy}
use Rattle.pcap.specs.Sink.{Drain}
pub use Rattle.timeline.specs.Drains.{Drains, drains}
use Rattle.timeline.specs.Timeline.{Timeline}
use Rattle.timeline.specs.declared.event.Event.{Event}
use Rattle.overlay.specs.declared.settings.change.Change.{Change}
use Rattle.endpoint_core.specs.Settings.{Settings}
use Rattle.capture_run.specs.Among.{outputs_among}
use Rattle.capture_run.specs.Outputs.{Outputs}
use Rattle.stream_run.specs.declared.fault.Target.{Target}
use Rattle.stream_run.specs.declared.fault.Target.TheVariants as targets
use Rattle.segment_set.specs.Segments.{Segments}

-- ---- the stages

-- how far a run is told
pub data Stage : Type 0 where
  -- no header stands
  Nothing : Stage
  -- the headers, and the texts of so many first events; of none: the headers alone
  Events : ℕ → Stage
  -- the headers, the texts of all events, and the lines of the cut captures
  Everything : Stage

-- the events whose texts stand
abbrev pub events_at : Timeline → Stage → List Event
events_at t Nothing = []
events_at t (Events k) = take k t.events
events_at t Everything = t.events

-- no line of a cut capture stands, and of events no more than there are
abbrev pub ComesBeforeCuts : Timeline → Stage → Type 0
ComesBeforeCuts t Nothing = ⊤
ComesBeforeCuts t (Events k) = k ≤ length t.events
ComesBeforeCuts t Everything = ⊥

-- behind nothing come the headers, behind these one event after another, and behind all events the lines of the cut captures
abbrev pub ComesNext : Timeline → Stage → Stage → Type 0
ComesNext t Nothing (Events k) = k ≡ 0
ComesNext t (Events k) (Events more) = (more ≡ k + 1) × (more ≤ length t.events)
ComesNext t (Events k) Everything = k ≡ length t.events
ComesNext t stage next = ⊥

-- ---- the texts

-- none
abbrev pub no_texts : ℕ → Outputs
no_texts ports = record { ports = replicate ports []; underlay = []; decisions = [] }

-- those of a stage, of what is taken in and told to these segments
abbrev pub stage_texts : (List Event → List Event) → Segments → Settings → List Change → ℕ → Timeline → Stage → Outputs
stage_texts taken segments S changes ports t Nothing = no_texts ports
stage_texts taken segments S changes ports t (Events k) =
    outputs_among segments S changes ports (record { events = taken (take k t.events); cuts = [] })
stage_texts taken segments S changes ports t Everything =
    outputs_among segments S changes ports (record { events = taken t.events; cuts = t.cuts })

-- ---- the outputs

-- an output holds more than before the front of a text, which is no shorter than another
pub record StandsBetween (old new : Drain) (least most : List ℕ) : Type 0 where
  pub size : ℕ
  pub no_less : length least ≤ size
  pub no_more : size ≤ length most
  pub text : Appends old.written new.written (take size most)

-- each of some outputs does
pub record PortsBetween (old new : List Drain) (least most : List (List ℕ)) : Type 0 where
  pub many : length new ≡ length old
  pub many_least : length least ≡ length old
  pub many_most : length most ≡ length old
  pub each : (d : Drain) (k : ℕ) → k < length old
      → StandsBetween (slice_index_or old k d) (slice_index_or new k d) (slice_index_or least k []) (slice_index_or most k [])

-- the captures hold just these texts more than before
pub record CapturesHold (old new : Drains) (texts : Outputs) : Type 0 where
  pub ports : PortsBetween old.ports new.ports texts.ports texts.ports
  pub underlay : StandsBetween old.underlay new.underlay texts.underlay texts.underlay

-- the lines come last: of those that the most texts have more than the least no octet stands there, or the captures
-- hold all their records already
abbrev pub LinesComeLast : Drains → Drains → Outputs → Outputs → Type 0
LinesComeLast old new least most = StandsBetween old.decisions new.decisions least.decisions least.decisions ⊎ CapturesHold old new most

-- each output of a run does, and the lines come last
pub record StandBetween (old new : Drains) (least most : Outputs) : Type 0 where
  pub ports : PortsBetween old.ports new.ports least.ports most.ports
  pub underlay : StandsBetween old.underlay new.underlay least.underlay most.underlay
  pub decisions : StandsBetween old.decisions new.decisions least.decisions most.decisions
  pub order : LinesComeLast old new least most

-- how often an output failed, and whether its sink gave up
abbrev pub health : Drain → ℕ × Bool
health d = (d.failures, d.is_failed)

-- no output failed
pub record AreWell (old new : Drains) : Type 0 where
  pub ports : map health new.ports ≡ map health old.ports
  pub underlay : health new.underlay ≡ health old.underlay
  pub decisions : health new.decisions ≡ health old.decisions

-- each output holds just these texts more than before, and none failed
pub record StandAt (old new : Drains) (texts : Outputs) : Type 0 where
  pub between : StandBetween old new texts texts
  pub well : AreWell old new

-- an output whose sink hadn't given up failed once, or took nothing
abbrev pub Failed : Drain → Drain → Type 0
Failed old new = old.is_failed ≡ false → GoesOnBy 1 old.failures new.failures

-- an output failed
abbrev pub FailedAt : Target → Drains → Drains → Type 0
FailedAt (targets.Port port) old new = (d : Drain) → (0 < port) × (port ≤ length old.ports)
    × Failed (slice_index_or old.ports (port - 1) d) (slice_index_or new.ports (port - 1) d)
FailedAt targets.Underlay old new = Failed old.underlay new.underlay
FailedAt targets.Decisions old new = Failed old.decisions new.decisions

-- ---- a step of a run

module _ {T : Type 0} where
  -- it takes the outputs from the texts at which they stand to the next ones, or to a part of them where an output fails
  abbrev pub Lead : Drains → Drains → Outputs → Outputs → Result T Target → Type 0
  Lead start new texts next (Ok x) = StandAt start new next
  Lead start new texts next (Err target) = StandBetween start new texts next × FailedAt target start new
