-- How far a run over streams read its captures, by the events whose texts its outputs hold; it serves the contract of the run.
--     ReachesOver      of each capture the records of these events were read, and one more
use Rattle.std.specs.Prelude.{◌≡◌, ◌⊎◌, ⊤, ℕ, List, [], Vec, Result, Ok, Err}
use Rattle.std.specs.declared.alloc.Global.{Global}
use Rattle.pcap.specs.Source.{Stream}
use Rattle.overlay_config.specs.Fault.{Meaning}
use Rattle.overlay_config.specs.Settings.{Settings}
use Rattle.overlay.specs.declared.settings.change.TimedChange.{TimedChange}
use Rattle.capture_run.specs.declared.fault.RunFault.TheVariants as faults
use Rattle.timeline.specs.declared.event.Event.{Event}
use Rattle.segment_set.specs.Segments.{Segments}
use Rattle.stream_run.specs.Over.{LacksMemory, StandsAmong, StandsBefore, StandsSomewhere, texts_octets, whole_records}
use Rattle.stream_run.specs.Stage.{Drains, Events, Nothing, Stage, events_at}
use Rattle.stream_run.specs.Steps.{AreReadBehind}
use Rattle.stream_run.specs.declared.fault.StreamFault.{StreamFault}
use Rattle.stream_run.specs.declared.fault.StreamFault.TheVariants as stream

-- behind the events of a stage
abbrev pub AreReadTo : List TimedChange → List (Vec ℕ Global) → List ℕ → Stage → List Stream → Stream
    → Result (Unit {0}) StreamFault → Type 0
AreReadTo changes texts text stage ports underlay result =
    AreReadBehind (texts_octets texts) text (events_at (whole_records changes texts text) stage) ports underlay result

-- with these settings and changes: all captures were read to their ends; or those at whose record the run didn't stop, up to
-- one record behind those of the events whose whole texts stand; before the first event nothing is said of them
-- Where a write failed, all captures stand so, and any write may fail: so the texts of an event are written before anything
-- more of its capture is read. Whoever read on first, to hand the texts on with what that brings, or to drop them where it
-- fails, would have read too far where their write fails
abbrev pub ReachesOver : (List Event → List Event) → Segments → Settings → List TimedChange → List (Vec ℕ Global) → List ℕ
    → Drains → Drains → List Stream → Stream → Result (Unit {0}) StreamFault → Type 0
ReachesOver taken segments s changes texts text old new ports underlay (Ok x) =
    AreReadBehind {T = Unit {0}} (texts_octets texts) text (whole_records changes texts text).events ports underlay (Ok x)
ReachesOver taken segments s changes texts text old new ports underlay (Err (stream.Run (faults.Record place n fault))) =
    (at : StandsBefore taken segments place n fault s changes texts text old new)
    × ((at.k ≡ 0) ⊎ AreReadTo changes texts text (Events at.k) ports underlay (Err (stream.Run (faults.Record place n fault))))
ReachesOver taken segments s changes texts text old new ports underlay (Err (stream.Run faults.OutOfMemory)) =
    (at : StandsSomewhere taken segments s changes texts text old new) × LacksMemory old new at.stage
    × ((events_at (whole_records changes texts text) at.stage ≡ [])
    ⊎ AreReadTo changes texts text at.stage ports underlay (Err (stream.Run faults.OutOfMemory)))
ReachesOver taken segments s changes texts text old new ports underlay (Err (stream.Run fault)) = ⊤
ReachesOver taken segments s changes texts text old new ports underlay (Err (stream.Read place)) =
    (at : StandsSomewhere taken segments s changes texts text old new)
    × ((events_at (whole_records changes texts text) at.stage ≡ [])
    ⊎ AreReadTo changes texts text at.stage ports underlay (Err (stream.Read place)))
ReachesOver taken segments s changes texts text old new ports underlay (Err (stream.Write target)) =
    (at : StandsAmong taken segments s changes texts text old new)
    × ((at.stage ≡ Nothing) ⊎ AreReadTo changes texts text at.stage ports underlay (Err (stream.Write target)))

-- by what the texts of the settings and of the changes mean
abbrev pub IsReachedOverSieved : (List Event → List Event) → Segments → Meaning Settings → Meaning (List TimedChange)
    → List (Vec ℕ Global) → List ℕ → Drains → Drains → List Stream → Stream → Result (Unit {0}) StreamFault → Type 0
IsReachedOverSieved taken segments (Ok s) (Ok changes) texts text old new ports underlay result =
    ReachesOver taken segments s changes texts text old new ports underlay result
IsReachedOverSieved taken segments (Ok s) (Err fault) texts text old new ports underlay result = ⊤
IsReachedOverSieved taken segments (Err fault) c texts text old new ports underlay result = ⊤
