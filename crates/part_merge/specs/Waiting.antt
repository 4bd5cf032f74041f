-- What is out while a merge waits for a part. It states no standard.
--     AllOut      nothing that was written is held back
--     TakesRead      to copy the next record of a capture takes a read
--     IsOutAtRead      where a read that may wait failed, all was out when it was made
use Rattle.std.specs.Prelude.{◌≡◌, ⊤, ℕ, Bool, true, false, List, [], length, Result, Ok, Err}
use Rattle.pcap.specs.Sink.{Drain}
use Rattle.pcap.specs.Source.{Stream, holds_next}
use Rattle.timeline.specs.Drains.{PortsOut}
use Rattle.timeline.specs.declared.source.Tap.{Tap}
use Rattle.part_merge.specs.Blame.{MatchRead}
use Rattle.part_merge.specs.Left.{IsTap, of_tap}
use Rattle.part_merge.specs.declared.capture.Stop.{Stop}
use Rattle.part_merge.specs.declared.capture.Stop.TheVariants as stops
use Rattle.part_merge.specs.declared.fault.MergeFault.{MergeFault}

-- no capture holds anything back
pub record CapturesOut (sinks : List Drain) (underlay_sink : Drain) : Type 0 where
  pub ports : PortsOut sinks
  pub underlay : underlay_sink.held ≡ []

-- and of the lines none is held back: what was written stands outside
pub record AllOut (sinks : List Drain) (underlay_sink : Drain) (held : List ℕ) : Type 0 where
  pub captures : CapturesOut sinks underlay_sink
  pub lines : held ≡ []

-- the next record of this capture of a part wasn't read ahead whole
abbrev pub TakesRead : List Stream → Stream → Tap → Type 0
TakesRead ports underlay tap = IsTap (length ports) tap × (holds_next (of_tap ports underlay tap) ≡ false)

-- What stands outside while a read waits is what stands where it fails, since nothing is done between the two: a merge learns
-- nothing of a read before it answers. So what is said of each input whose read fails is said of each read that waits

module _ {T : Type 0} where
  -- a copy stopped at a read, and this holds
  abbrev pub AtRead : Result T Stop → Type 0 → Type 0
  AtRead (Ok x) P = ⊤
  AtRead (Err stops.Read) P = P
  AtRead (Err stops.Write) P = ⊤
  AtRead (Err (stops.Wrong fault)) P = ⊤

  -- where a read of a part failed that may wait, all is out
  abbrev pub IsOutAtRead : Bool → List Drain → Drain → List ℕ → Result T MergeFault → Type 0
  IsOutAtRead may_wait ports underlay lines result = MatchRead result (λ part. may_wait ≡ true → AllOut ports underlay lines) ⊤

  -- the same of the lines alone
  abbrev pub AreOutAtRead : Bool → List ℕ → Result T MergeFault → Type 0
  AreOutAtRead may_wait lines result = MatchRead result (λ part. may_wait ≡ true → lines ≡ []) ⊤
