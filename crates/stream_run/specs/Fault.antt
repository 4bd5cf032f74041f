-- The faults of a source as those of a run. It serves proofs.
use Rattle.std.specs.Prelude.{ℕ}
use Rattle.pcap.specs.declared.text.header.CaptureFault.TheVariants as capture
use Rattle.pcap.specs.declared.text.record.RecordFault.TheVariants as record_
use Rattle.pcap.specs.declared.stream.fault.SourceFault.{SourceFault}
use Rattle.pcap.specs.declared.stream.fault.SourceFault.TheVariants as source
use Rattle.timeline.specs.declared.source.Tap.{Tap}
use Rattle.capture_run.specs.declared.fault.RunFault.TheVariants as faults
use Rattle.stream_run.specs.declared.fault.Halt.{Halt}
use Rattle.stream_run.specs.declared.fault.Halt.TheVariants as halt
use Rattle.stream_run.specs.declared.fault.StreamFault.{StreamFault}
use Rattle.stream_run.specs.declared.fault.StreamFault.TheVariants as stream

-- at the record of this number of a capture
abbrev pub fault_of : Tap → ℕ → SourceFault → StreamFault
fault_of tap n source.Read = stream.Read tap
fault_of tap n source.NotPcap = stream.Run (faults.Capture tap capture.NotPcap)
fault_of tap n source.BadLink = stream.Run (faults.Capture tap capture.BadLink)
fault_of tap n source.TooLarge = stream.Run (faults.Record tap n record_.TooLarge)
fault_of tap n source.BadFraction = stream.Run (faults.Record tap n record_.BadFraction)

-- of a run that stopped at an event of this source, whose record of this number comes next
abbrev pub stopped : Tap → ℕ → Halt → StreamFault
stopped tap n (halt.Write target) = stream.Write target
stopped tap n (halt.Source fault) = fault_of tap n fault
