-- The text of a record (pcap-savefile(5)): seconds, fraction, captured length and original length, 32 bits each, and
-- the octets that were captured.
use Rattle.std.specs.Prelude.{◌≡◌, ◌<◌, ◌≤◌, ℕ, ◌+◌, ◌*◌, ◌^◌, List, ◌++◌, length, drop}
use Rattle.pcap.specs.Record.{Record, longest}
use Rattle.pcap.specs.Style.{fractions_of, nanoseconds_of, number_of, octets_of, second}
use Rattle.pcap.specs.declared.text.record.RecordHeader.{RecordHeader}
use Rattle.pcap.specs.declared.text.style.Order.{Order}
use Rattle.pcap.specs.declared.text.style.Precision.{Precision}
use Rattle.pcap.specs.declared.text.style.Style.{Style}

-- the four numbers as a text
abbrev pub record_header_text : Order → RecordHeader → List ℕ
record_header_text order h =
    octets_of order 4 h.seconds ++ (octets_of order 4 h.fraction ++ (octets_of order 4 h.captured ++ octets_of order 4 h.original))

-- the four numbers by their places, with a way to read a number
abbrev pub record_header_by : (ℕ → List ℕ → ℕ) → List ℕ → RecordHeader
record_header_by number text = record {
  seconds = number 4 text;
  fraction = number 4 (drop 4 text);
  captured = number 4 (drop 8 text);
  original = number 4 (drop 12 text);
}

-- the header of a record in this order of octets
unfoldable pub record_header_in : Order → List ℕ → RecordHeader
record_header_in order text = record_header_by (number_of order) text

-- the moment in nanoseconds
abbrev pub moment_of : Precision → RecordHeader → ℕ
moment_of precision h = h.seconds * second + h.fraction * nanoseconds_of precision

-- the text is the text of a record
pub record IsRecordText (style : Style) (r : Record) (text : List ℕ) : Type 0 where
  pub header : RecordHeader
  pub seconds_fit : header.seconds < 2 ^ 32
  pub fraction_fits : header.fraction < fractions_of style.precision
  pub captured_fits : header.captured ≤ longest
  pub original_fits : header.original < 2 ^ 32
  pub moment : r.moment ≡ moment_of style.precision header
  pub captured : length r.octets ≡ header.captured
  pub original : r.original ≡ header.original
  pub whole : text ≡ record_header_text style.order header ++ r.octets
