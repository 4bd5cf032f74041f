-- The classic capture (pcap-savefile(5)) of a pcapng text.
use Rattle.std.specs.Prelude.{◌≡◌, ℕ, List, [], ◌∷◌, ◌++◌, Option, Some, None, Result, Ok, Err, ⊤}
use Rattle.wire.specs.Octets.{IsText}
use Rattle.pcap.specs.Capture.{opened}
use Rattle.pcap.specs.Next.{Cut, End, Whole}
use Rattle.pcap.specs.Record.{Record}
use Rattle.pcap.specs.Written.{written, written_record}
use Rattle.pcapng_input.specs.Reading.{EndsCut, EndsFaulty, EndsWhole, PacketReading, TextEnd, packets_of}
use Rattle.pcapng_input.specs.declared.fault.PcapngError.{PcapngError}
use Rattle.pcapng_input.specs.declared.fault.PcapngError.TheVariants.{Faulty, OutOfMemory}
use Rattle.pcapng_input.specs.declared.fault.PcapngFault.{PcapngFault}
use Rattle.pcapng_input.specs.declared.interface.Selection.{Selection}

-- the octets of a record, if there is one
abbrev pub found_text : Option Record → List ℕ
found_text None = []
found_text (Some r) = written_record r

-- a capture with these octets in front, by how the text ends: a cut text gives a capture that is cut too, with the first
-- octet of a record's header
abbrev pub capture_by : List ℕ → TextEnd → Result (List ℕ) PcapngFault
capture_by front EndsWhole = Ok front
capture_by front EndsCut = Ok (front ++ 0 ∷ [])
capture_by front (EndsFaulty fault) = Err fault

-- the classic capture of a reading: little-endian, in nanoseconds, of Ethernet, its records the packets in their order
abbrev pub classic_by : PacketReading → Result (List ℕ) PcapngFault
classic_by reading = capture_by (written reading.records) reading.end

-- the classic capture of a text, or the first fault that the text has
unfoldable pub classic_text : Selection → List ℕ → Result (List ℕ) PcapngFault
classic_text selection text = classic_by (packets_of selection text)

-- an error is the text's fault, unless memory was refused
abbrev pub IsErrorOf : Result (List ℕ) PcapngFault → PcapngError → Type 0
IsErrorOf classic (Faulty fault) = classic ≡ Err fault
IsErrorOf classic OutOfMemory = ⊤

-- how the classic capture ends: one of a cut text ends cut
abbrev pub classic_end : TextEnd → End
classic_end EndsWhole = Whole
classic_end EndsCut = Cut
classic_end (EndsFaulty fault) = Whole

-- a law: the records of the classic capture are the packets of the text in their order, and it ends cut where the text does
abbrev pub TellsThePackets : Type 0
TellsThePackets = (selection : Selection) (text classic : List ℕ) → IsText text → classic_text selection text ≡ Ok classic
    → opened classic ≡ Ok (record { records = (packets_of selection text).records; end = classic_end (packets_of selection text).end })
