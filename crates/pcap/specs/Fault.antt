-- The faults of a capture as those of a source. It states no standard.
use Rattle.pcap.specs.declared.text.header.CaptureFault.{CaptureFault}
use Rattle.pcap.specs.declared.text.header.CaptureFault.TheVariants as capture
use Rattle.pcap.specs.declared.text.record.RecordFault.{RecordFault}
use Rattle.pcap.specs.declared.text.record.RecordFault.TheVariants as record_
use Rattle.pcap.specs.declared.stream.fault.SourceFault.{SourceFault}
use Rattle.pcap.specs.declared.stream.fault.SourceFault.TheVariants as source

-- a fault of a header as a source answers it
abbrev pub capture_fault : CaptureFault → SourceFault
capture_fault capture.NotPcap = source.NotPcap
capture_fault capture.BadLink = source.BadLink

-- a fault of a record as a source answers it
abbrev pub record_fault : RecordFault → SourceFault
record_fault record_.TooLarge = source.TooLarge
record_fault record_.BadFraction = source.BadFraction
