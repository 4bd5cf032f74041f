-- A capture (pcap-savefile(5)): a global header, records, and a rest.
use Rattle.std.specs.Prelude.{◌≡◌, ℕ, List, ◌++◌, length, drop, Result, Ok, Err}
use Rattle.wire.specs.Octets.{IsText}
use Rattle.pcap.specs.Header.{ethernet, header_text, style_of}
use Rattle.pcap.specs.Reading.{Reading, IsReadAs, records}
use Rattle.pcap.specs.declared.text.header.CaptureFault.{CaptureFault}
use Rattle.pcap.specs.declared.text.style.Style.{Style}

-- the text is a global header of some style with link type Ethernet, the records, and a rest in which none stands
pub record IsCapture (text : List ℕ) (reading : Reading) : Type 0 where
  pub style : Style
  pub ignored : List ℕ
  pub behind : List ℕ
  pub ignored_length : length ignored ≡ 12
  pub header : text ≡ header_text style ignored ethernet ++ behind
  pub records : IsReadAs style behind reading

-- the records of a capture and how they end, or why it isn't read
abbrev pub opened_by : Result Style CaptureFault → List ℕ → Result Reading CaptureFault
opened_by (Err fault) text = Err fault
opened_by (Ok style) text = Ok (records style (drop 24 text))

-- a text opened: its records, or why it is no capture
abbrev pub opened : List ℕ → Result Reading CaptureFault
opened text = opened_by (style_of text) text

-- two laws: what is opened is a capture, and a capture is opened as the one thing that it is
abbrev pub OpensWhatIsThere : Type 0
OpensWhatIsThere = (text : List ℕ) (reading : Reading) → IsText text → opened text ≡ Ok reading → IsCapture text reading

-- a capture is opened as what it is
abbrev pub OpensNothingElse : Type 0
OpensNothingElse = (text : List ℕ) (reading : Reading) → IsCapture text reading → opened text ≡ Ok reading
