-- What comes next in a text of records (pcap-savefile(5)): another record, or how they end.
use Rattle.std.specs.Prelude.{ℕ, ◌+◌, ◌==◌, ◌<◌, ◌≤◌, Bool, nat_lt, nat_le, List, [], ◌∷◌, ◌++◌}
use Rattle.std.specs.Prelude.{length, map, take, drop, Option, Some, None, option_map, Result, Ok, Err}
use Rattle.std.specs.List.{find}
use Rattle.pcap.specs.Record.{Record, longest}
use Rattle.pcap.specs.RecordText.{moment_of, record_header_in}
use Rattle.pcap.specs.Style.{fractions_of}
use Rattle.pcap.specs.declared.text.style.Style.{Style}
use Rattle.pcap.specs.declared.text.record.RecordFault.{RecordFault}
use Rattle.pcap.specs.declared.text.record.RecordFault.TheVariants.{TooLarge, BadFraction}
use Rattle.pcap.specs.declared.text.record.RecordHeader.{RecordHeader}

-- how the records of a text end: with nothing behind them, with a rest that is no whole record, or with a fault
pub data End : Type 0 where
  Whole : End
  Cut : End
  Faulty : (fault : RecordFault) → End

-- another record and the text behind it, or how the records end
pub data Next : Type 0 where
  Another : (r : Record) (rest : List ℕ) → Next
  Ends : (end : End) → Next

-- the first of some rows whose test holds
abbrev pub first_row : {A : Type 0} → List (A × Bool) → Option A
first_row rows = option_map (λ row. row.0) (find (λ row. row.1) rows)

-- the checks of a record's header
abbrev pub record_faults : Style → RecordHeader → List (RecordFault × Bool)
record_faults style header =
    (TooLarge, nat_lt longest header.captured) ∷ (BadFraction, nat_le (fractions_of style.precision) header.fraction) ∷ []

-- the header, or the first fault that it has
abbrev pub unless_faulty : Option RecordFault → RecordHeader → Result RecordHeader RecordFault
unless_faulty (Some fault) header = Err fault
unless_faulty None header = Ok header

-- a record header, or the first fault that it has
unfoldable pub readable : Style → RecordHeader → Result RecordHeader RecordFault
readable style header = unless_faulty (first_row (record_faults style header)) header

-- a header that has no fault
pub record IsReadable (style : Style) (header : RecordHeader) : Type 0 where
  pub captured : header.captured ≤ longest
  pub fraction : header.fraction < fractions_of style.precision

-- the checks of what stands in front, in their order
abbrev pub endings : Style → RecordHeader → ℕ → List (End × Bool)
endings style header size =
    (Whole, size == 0)
    ∷ (Cut, nat_lt size 16)
    ∷ (map (λ row. (Faulty row.0, row.1)) (record_faults style header) ++ (Cut, nat_lt size (16 + header.captured)) ∷ [])

-- how the records end, by the first check that holds; None: another record stands in front
abbrev pub ending : Style → List ℕ → Option End
ending style text = first_row (endings style (record_header_in style.order text) (length text))

-- the record whose header and octets stand in front of a text
abbrev pub record_by : Style → RecordHeader → List ℕ → Record
record_by style header text = record {
  moment = moment_of style.precision header;
  original = header.original;
  octets = take header.captured (drop 16 text);
}

-- the text behind it
abbrev pub behind_by : RecordHeader → List ℕ → List ℕ
behind_by header text = drop (16 + header.captured) text

-- the record and the text behind it, unless the records end
abbrev pub next_unless : Option End → Record → List ℕ → Next
next_unless (Some end) r rest = Ends end
next_unless None r rest = Another r rest

-- what comes next, for a capture in memory and for one that is read piece by piece
unfoldable pub next_of : Style → List ℕ → Next
next_of style text =
    let header = record_header_in style.order text in
    next_unless (ending style text) (record_by style header text) (behind_by header text)
