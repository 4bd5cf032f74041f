-- What comes of the records of an event; it serves the contracts of the merge's parts.
use Rattle.std.specs.Prelude.{ℕ, List, map, Result, Ok, Err}
use Rattle.std.specs.List.{AllByRecursion}
use Rattle.pcap.specs.Sink.{Drain}
use Rattle.pcap.specs.Source.{Stream}
use Rattle.timeline.specs.declared.source.Tap.{Tap}
use Rattle.part_merge.specs.Left.{AreAdded, AreLeft, IsDeviceFault, IsTap, IsWritten}
use Rattle.part_merge.specs.declared.capture.Stop.{Stop}
use Rattle.part_merge.specs.declared.capture.Stop.TheVariants as stops
use Rattle.part_merge.specs.declared.fault.MergeFault.{MergeFault}
use Rattle.part_merge.specs.declared.fault.MergeFault.TheVariants as faults
use Rattle.part_lines.specs.declared.part_fault.PartFault.TheVariants as part_faults
use Rattle.part_merge.specs.declared.fault.Target.TheVariants as targets

-- why a merge stops where a record of a capture of a part isn't copied
abbrev pub stopped_at : ℕ → Tap → Stop → MergeFault
stopped_at part tap stops.Read = faults.Read part
stopped_at part tap stops.Write = faults.Write (targets.Capture tap)
stopped_at part tap (stops.Wrong fault) = faults.Part part (part_faults.Capture tap fault)

-- the captures of some records, in order
abbrev pub taps : List (Tap × List ℕ) → List Tap
taps records = map (λ (r : Tap × List ℕ). r.0) records

-- the record of a run in one of the captures that there are
abbrev pub IsRecord : ℕ → Tap × List ℕ → Type 0
IsRecord ports r = IsTap ports r.0 × IsWritten r.1

-- records of a run
abbrev pub AreRecords : ℕ → List (Tap × List ℕ) → Type 0
AreRecords ports records = AllByRecursion (IsRecord ports) records

module _ {T : Type 0} where
  -- this is left of each capture and that was added to each output, or a device failed
  abbrev pub Moves : (Tap → List ℕ) → (Tap → List ℕ) → List Stream → Stream → List Drain → Drain → List Drain → Drain
      → Result T MergeFault → Type 0
  Moves rest added ports underlay old old_underlay new new_underlay (Ok x) =
      AreLeft rest ports underlay × AreAdded added old old_underlay new new_underlay
  Moves rest added ports underlay old old_underlay new new_underlay (Err fault) = IsDeviceFault fault
