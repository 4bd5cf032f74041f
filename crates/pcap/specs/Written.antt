-- What is written (pcap-savefile(5)): little-endian, in nanoseconds, link type Ethernet.
use Rattle.std.specs.Prelude.{◌≡◌, ℕ, ◌/◌, ◌%◌, List, ◌++◌, length, Ok}
use Rattle.std.specs.List.{AllByRecursion, flat_map}
use Rattle.pcap.specs.Capture.{opened}
use Rattle.pcap.specs.Header.{ethernet, header_text}
use Rattle.pcap.specs.Record.{IsWithinLimits, Record, longest}
use Rattle.pcap.specs.Reading.{whole}
use Rattle.pcap.specs.RecordText.{record_header_text}
use Rattle.pcap.specs.Style.{octets_of, second}
use Rattle.pcap.specs.declared.text.style.Order.TheVariants.{Little}
use Rattle.pcap.specs.declared.text.style.Precision.TheVariants.{Nano}
use Rattle.pcap.specs.declared.text.style.Style.{Style}

-- captures are written low octet first, in nanoseconds
abbrev pub written_style : Style
written_style = record { order = Little; precision = Nano }

-- the global header: time zone 0, accuracy 0, and as its snapshot length the octets of a record at most
abbrev pub written_header : List ℕ
written_header = header_text written_style (octets_of Little 4 0 ++ (octets_of Little 4 0 ++ octets_of Little 4 longest)) ethernet

-- what stands before a record's octets
abbrev pub record_header_of : ℕ → ℕ → ℕ → List ℕ
record_header_of moment captured original = record_header_text Little (record {
  seconds = moment / second;
  fraction = moment % second;
  captured = captured;
  original = original;
})

-- the octets of a record as it is written
unfoldable pub written_record : Record → List ℕ
written_record r = record_header_of r.moment (length r.octets) r.original ++ r.octets

-- a frame at a moment, of which nothing was cut off
abbrev pub whole_frame : ℕ → List ℕ → Record
whole_frame moment octets = record { moment = moment; original = length octets; octets = octets }

-- a header and records
abbrev pub written : List Record → List ℕ
written rs = written_header ++ flat_map written_record rs

-- a law: what was written is read again, those records and nothing behind them
abbrev pub ReadsWhatWasWritten : Type 0
ReadsWhatWasWritten = (rs : List Record) → AllByRecursion IsWithinLimits rs → opened (written rs) ≡ Ok (whole rs)
