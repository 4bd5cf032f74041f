-- What is wrong with captures, in order. It states no standard.
use Rattle.std.specs.Prelude.{◌≡◌, ℕ, ◌+◌, List, ◌++◌, length, Option, Some, None, Result, Ok, Err}
use Rattle.std.specs.List.{filter_map}
use Rattle.pcap.specs.Capture.{opened}
use Rattle.pcap.specs.Next.{End, Whole, Cut, Faulty}
use Rattle.pcap.specs.Reading.{Reading}
use Rattle.pcap.specs.declared.text.header.CaptureFault.{CaptureFault}
use Rattle.timeline.specs.Inputs.{Input, opened_captures}
use Rattle.timeline.specs.declared.capture.Opened.{Opened}
use Rattle.timeline.specs.declared.fault.TimelineFault.{TimelineFault}
use Rattle.timeline.specs.declared.fault.TimelineFault.TheVariants as faults
use Rattle.timeline.specs.declared.source.Tap.{Tap}

-- why a capture isn't opened
abbrev pub refused_by : Tap → Result Reading CaptureFault → Option TimelineFault
refused_by tap (Ok reading) = None
refused_by tap (Err fault) = Some (faults.Capture tap fault)

-- why captures aren't opened, in their order
abbrev pub opening_faults : List Input → List TimelineFault
opening_faults inputs = filter_map (λ input. refused_by input.tap (opened input.text)) inputs

-- the fault that some records end with: it is the next one's
abbrev pub ended_by : Tap → ℕ → End → Option TimelineFault
ended_by tap count Whole = None
ended_by tap count Cut = None
ended_by tap count (Faulty fault) = Some (faults.Record tap (count + 1) fault)

-- the fault that the records of a capture end with
abbrev pub record_fault : Opened → Option TimelineFault
record_fault c = ended_by c.tap (length c.capture.records) c.capture.end

-- the same of all captures, in their order
abbrev pub record_faults : List Opened → List TimelineFault
record_faults captures = filter_map record_fault captures

-- first what is wrong with the openings of all captures, and then with their records
abbrev pub faults_of : List Input → List TimelineFault
faults_of inputs = opening_faults inputs ++ record_faults (opened_captures inputs)

-- a fault is that one, unless memory was refused
abbrev pub IsFault : TimelineFault → Option TimelineFault → Type 0
IsFault faults.OutOfMemory found = Unit {0}
IsFault (faults.Capture tap fault) found = found ≡ Some (faults.Capture tap fault)
IsFault (faults.Record tap number fault) found = found ≡ Some (faults.Record tap number fault)
