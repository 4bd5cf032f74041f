-- All that a run over streams does with its settings and changes, on as many captures as there are ports; it serves the contracts of
-- the parts of the run.
--     IsDone      whatever its captures tell
--     IsDoneOver      by their octets
use Rattle.std.specs.Prelude.{ℕ, List, Vec, Result, Ok}
use Rattle.std.specs.declared.alloc.Global.{Global}
use Rattle.pcap.specs.Source.{Stream}
use Rattle.overlay_config.specs.Settings.{Settings}
use Rattle.overlay.specs.declared.settings.change.TimedChange.{TimedChange}
use Rattle.timeline.specs.declared.event.Event.{Event}
use Rattle.endpoint_core.specs.Opened.{settings_told}
use Rattle.endpoint_core.specs.Settings.{Settings as InForce}
use Rattle.endpoint_core.specs.Step.{State}
use Rattle.segment_set.specs.Segments.{Segments}
use Rattle.stream_run.specs.Left.{Leaves, ends as both}
use Rattle.stream_run.specs.Over.{LeavesSieved, Tells}
use Rattle.stream_run.specs.Reached.{ReachesOver}
use Rattle.stream_run.specs.Sights.{Sight}
use Rattle.stream_run.specs.Stage.{Drains}
use Rattle.stream_run.specs.Watched.{GoesOver, SeesOver, Shows}
use Rattle.stream_run.specs.declared.fault.StreamFault.{StreamFault}

module _ (segments : Segments) {S T : Type 0} (taken : S → InForce → List TimedChange → List Event → List Event)
    (goes : S → InForce → List TimedChange → Event → S → Type 0)
    (sees : T → Sight → T → Type 0) (ends : T → State → T → Type 0) where
  -- what its outputs hold, how far its captures are read, and what was seen, by the octets of the captures
  pub record IsDoneOver (s : Settings) (changes : List TimedChange) (texts : List (Vec ℕ Global)) (text : List ℕ)
      (old new : Drains) (ports : List Stream) (underlay : Stream) (old_sieve new_sieve : S) (old_watch new_watch : T)
      (result : Result (Unit {0}) StreamFault) : Type 0 where
    pub left : LeavesSieved (taken old_sieve (settings_told s) changes) segments s changes texts text old new result
    pub reached : ReachesOver (taken old_sieve (settings_told s) changes) segments s changes texts text old new ports underlay result
    pub seen : SeesOver (taken old_sieve (settings_told s) changes) segments sees ends s changes texts text old new old_watch
        new_watch result
    pub went : GoesOver goes (Ok s) (Ok changes) texts text old_sieve new_sieve result

  -- what its outputs hold, what was shown, and both by the octets of the captures, where they tell them
  pub record IsDone (s : Settings) (changes : List TimedChange) (ports : List Stream) (underlay : Stream)
      (new_ports : List Stream) (new_underlay : Stream) (old new : Drains) (old_sieve new_sieve : S) (old_watch new_watch : T)
      (result : Result (Unit {0}) StreamFault) : Type 0 where
    pub left : Leaves (taken old_sieve (settings_told s) changes) segments s changes (both ports underlay old)
        (both new_ports new_underlay new) result
    pub shown : Shows (taken old_sieve (settings_told s) changes) segments sees ends s changes old new old_watch new_watch result
    pub over : (texts : List (Vec ℕ Global)) (text : List ℕ) → Tells ports underlay texts text
        → IsDoneOver s changes texts text old new new_ports new_underlay old_sieve new_sieve old_watch new_watch result
