-- What is out while a run waits for its captures. It states no standard.
--     AllOut      nothing that was written is held back
--     TakesRead      the next record of a source takes a read
--     IsOutBefore      where a read may wait, all is out before it is made
--     IsOutAtHalt, IsOutAtRead      where a read that may wait failed, all was out when it was made
--     LeaveTheSame      whatever was held back on the way, the same stands at the end
use Rattle.std.specs.Prelude.{◌≡◌, ⊤, ℕ, Bool, true, false, List, [], length, Vec, Result, Ok, Err}
use Rattle.std.specs.declared.alloc.Global.{Global}
use Rattle.pcap.specs.Source.{Stream, holds_next}
use Rattle.pcap.specs.declared.stream.fault.SourceFault.TheVariants as source
use Rattle.timeline.specs.Drains.{PortsOut}
use Rattle.timeline.specs.declared.source.Tap.{Tap}
use Rattle.overlay_config.specs.Fault.{Meaning}
use Rattle.overlay_config.specs.Settings.{Settings}
use Rattle.overlay.specs.declared.settings.change.TimedChange.{TimedChange}
use Rattle.capture_run.specs.Outputs.{Outputs}
use Rattle.stream_run.specs.Over.{IsWholeRun}
use Rattle.stream_run.specs.Stage.{Drains, StandAt}
use Rattle.stream_run.specs.Steps.{IsAt, source_at}
use Rattle.stream_run.specs.declared.fault.Halt.{Halt}
use Rattle.stream_run.specs.declared.fault.Halt.TheVariants as halt
use Rattle.stream_run.specs.declared.fault.StreamFault.{StreamFault}
use Rattle.stream_run.specs.declared.fault.StreamFault.TheVariants as stream

-- no output holds anything back: what was written stands outside
pub record AllOut (d : Drains) : Type 0 where
  pub ports : PortsOut d.ports
  pub underlay : d.underlay.held ≡ []
  pub decisions : d.decisions.held ≡ []

-- the source with this index is a capture whose next record wasn't read ahead whole
pub record TakesRead (ports : List Stream) (underlay : Stream) (index : ℕ) : Type 0 where
  pub place : Tap
  pub at : IsAt (length ports) index place
  pub lacks : holds_next (source_at ports underlay place) ≡ false

-- where reads may wait and the source with this index is asked for what takes one, all is out
abbrev pub IsOutBefore : Bool → List Stream → Stream → ℕ → Drains → Type 0
IsOutBefore may_wait ports underlay index d = may_wait ≡ true → TakesRead ports underlay index → AllOut d

-- a sieve takes each event in, or all is out, where reads may wait
abbrev pub IsOutOrAll : Bool → Bool → Drains → Type 0
IsOutOrAll all may_wait d = all ≡ false → may_wait ≡ true → AllOut d

-- ---- whole runs
-- What stands outside while a read waits is what stands where it fails, since nothing is done between the two: a run learns
-- nothing of a read before it answers. So what is said of each input whose read fails is said of each read that waits

module _ {T : Type 0} where
  -- an event's next record wasn't to be had: where a read failed that may wait, all is out
  abbrev pub IsOutAtHalt : Bool → Drains → Result T Halt → Type 0
  IsOutAtHalt may_wait d (Err (halt.Source source.Read)) = may_wait ≡ true → AllOut d
  IsOutAtHalt may_wait d result = ⊤

  -- a run stopped: the same
  abbrev pub IsOutAtRead : Bool → Drains → Result T StreamFault → Type 0
  IsOutAtRead may_wait d (Err (stream.Read place)) = may_wait ≡ true → AllOut d
  IsOutAtRead may_wait d result = ⊤

-- a law: two whole runs over the same texts that stop at no fault leave the same, whatever each held back on its way and
-- whenever it went on
abbrev pub LeaveTheSame : Type 0
LeaveTheSame = (s : Meaning Settings) (c : Meaning (List TimedChange)) (texts : List (Vec ℕ Global)) (text : List ℕ)
    (old new other_old other_new : Drains)
    → IsWholeRun s c texts text old new (Ok tt) → IsWholeRun s c texts text other_old other_new (Ok tt)
    → (found : Outputs) × StandAt old new found × StandAt other_old other_new found
