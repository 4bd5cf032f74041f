-- The records of a text, and how they end (pcap-savefile(5)).
use Rattle.std.specs.Prelude.{◌≡◌, ℕ, zero, suc, List, [], ◌∷◌, ◌++◌, length, Some}
use Rattle.pcap.specs.Next.{End, Whole, Next, Another, Ends, ending, next_of}
use Rattle.pcap.specs.Record.{Record}
use Rattle.pcap.specs.RecordText.{IsRecordText}
use Rattle.pcap.specs.declared.text.style.Style.{Style}

-- some records, and how they end
pub record Reading : Type 0 where
  pub records : List Record
  pub end : End

-- these records, and nothing behind them
abbrev pub whole : List Record → Reading
whole rs = record { records = rs; end = Whole }

-- ---- in whole texts

-- the text is the texts of these records and a rest, side by side
abbrev pub AreRecordTexts : Style → List Record → List ℕ → List ℕ → Type 0
AreRecordTexts style [] rest text = text ≡ rest
AreRecordTexts style (r ∷ rs) rest text =
    (front : List ℕ) × (behind : List ℕ) × IsRecordText style r front
    × AreRecordTexts style rs rest behind × (text ≡ front ++ behind)

-- the text is the texts of the records and a rest in which no further record stands, by its end
pub record IsReadAs (style : Style) (text : List ℕ) (reading : Reading) : Type 0 where
  pub rest : List ℕ
  pub records : AreRecordTexts style reading.records rest text
  pub end : ending style rest ≡ Some reading.end

-- ---- one by one

-- a record in front of a reading
abbrev pub with_record : Record → Reading → Reading
with_record r reading = record { records = r ∷ reading.records; end = reading.end }

-- what comes next, and the reading of the text behind it
abbrev pub reading_by : (List ℕ → Reading) → Next → Reading
reading_by more (Another r rest) = with_record r (more rest)
reading_by more (Ends end) = record { records = []; end = end }

-- the records of a text, where there are fewer than n
unfoldable pub first_records : ℕ → Style → List ℕ → Reading
first_records zero style text = whole []
first_records (suc n) style text = reading_by (first_records n style) (next_of style text)

-- the records of a text; there are no more than it has octets
unfoldable pub records : Style → List ℕ → Reading
records style text = first_records (suc (length text)) style text

-- a law: they are the next one and those of the text behind it
abbrev pub GoesOnBehindNext : Type 0
GoesOnBehindNext = (style : Style) (text : List ℕ) → records style text ≡ reading_by (records style) (next_of style text)
