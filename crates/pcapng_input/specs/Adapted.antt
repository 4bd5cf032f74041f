-- What an input of a capture tells: a pcapng text (draft-ietf-opsawg-pcapng) as a classic one, and any other as it is.
use Rattle.std.specs.Prelude.{◌≡◌, ℕ, ◌+◌, ◌==◌, ◌&&◌, ◌||◌, nat_le, nat_lt, if◌then◌else◌, Bool, true}
use Rattle.std.specs.Prelude.{false, List, [], ◌∷◌, ◌++◌, length, drop, Option, Some, None, Result, Ok, Err}
use Rattle.std.specs.List.{flat_map}
use Rattle.pcap.specs.Style.{number_of}
use Rattle.pcap.specs.Written.{written_header, written_record}
use Rattle.pcap.specs.declared.text.style.Order.{Order}
use Rattle.pcapng_input.specs.Block.{is_section}
use Rattle.pcapng_input.specs.Classic.{classic_text}
use Rattle.pcapng_input.specs.Reading.{Context, EndsCut, EndsFaulty, EndsWhole, PacketReading}
use Rattle.pcapng_input.specs.Reading.{TextEnd, block_fault_at, ended, packets_in, packets_of}
use Rattle.pcapng_input.specs.declared.fault.BlockFault.TheVariants.{BadLength}
use Rattle.pcapng_input.specs.declared.fault.PcapngFault.{PcapngFault}
use Rattle.pcapng_input.specs.declared.interface.Selection.{Selection}
use Rattle.pcapng_input.specs.declared.interface.Selection.TheVariants.{All, Number, Name}

-- the octets of a capture that are told up to its first fault, that fault, if it has one, and how many packets are left out
-- up to there
pub record Told : Type 0 where
  pub octets : List ℕ
  pub fault : Option PcapngFault
  pub left_out : ℕ

-- some octets in front
abbrev pub told_behind : List ℕ → Told → Told
told_behind front told = record { octets = front ++ told.octets; fault = told.fault; left_out = told.left_out }

-- how a classic capture ends by how the text does: a cut text is told by the first octet of a record's header
abbrev pub told_end : ℕ → TextEnd → Told
told_end left_out EndsWhole = record { octets = []; fault = None; left_out = left_out }
told_end left_out EndsCut = record { octets = 0 ∷ []; fault = None; left_out = left_out }
told_end left_out (EndsFaulty fault) = record { octets = []; fault = Some fault; left_out = left_out }

-- the records of a reading, and how it ends
abbrev pub told_reading : PacketReading → Told
told_reading reading = told_behind (flat_map written_record reading.records) (told_end reading.left_out reading.end)

-- the packets of one interface are asked for
abbrev pub is_of_one : Selection → Bool
is_of_one All = false
is_of_one (Number selected) = true
is_of_one (Name selected) = true

-- a text is read as pcapng: it begins as a section header does, or the packets of one interface are asked for, which only a
-- pcapng text has
abbrev pub is_adapted : Selection → List ℕ → Bool
is_adapted selection text = is_of_one selection || (nat_le 4 (length text) && is_section text)

-- a pcapng text as a classic capture
abbrev pub told_packets : Selection → List ℕ → Told
told_packets selection text = told_behind written_header (told_reading (packets_of selection text))

-- another text as it is
abbrev pub told_plain : List ℕ → Told
told_plain text = record { octets = text; fault = None; left_out = 0 }

-- what is told of a whole text
unfoldable pub told_text : Selection → List ℕ → Told
told_text selection text = if is_adapted selection text then told_packets selection text else told_plain text

-- a told capture is this classic one, or has this fault
abbrev pub TellsClassic : Told → Result (List ℕ) PcapngFault → Type 0
TellsClassic told (Ok capture) = (told.octets ≡ capture) × (told.fault ≡ None)
TellsClassic told (Err fault) = told.fault ≡ Some fault

-- a law: where a text is read as pcapng, its classic capture is told, or its first fault
abbrev pub TellsTheClassicText : Type 0
TellsTheClassicText = (selection : Selection) (text : List ℕ) → is_adapted selection text ≡ true
    → TellsClassic (told_text selection text) (classic_text selection text)

-- a law: any other text is told as it is
abbrev pub TellsOtherTexts : Type 0
TellsOtherTexts = (selection : Selection) (text : List ℕ)
    → is_adapted selection text ≡ false → told_text selection text ≡ told_plain text

-- ---- within a text

-- what is known behind a block of this length that says nothing
abbrev pub behind_other : Context → ℕ → Context
behind_other context size = record {
  order = context.order;
  interfaces = context.interfaces;
  last = context.last;
  left_out = context.left_out;
  blocks = context.blocks + 1;
  offset = context.offset + size;
}

-- the packets of a text that begins with the second length of a block of this length, which says nothing
abbrev pub packets_closing : Selection → Context → Order → ℕ → List ℕ → PacketReading
packets_closing selection context order size text =
    if nat_lt (length text) 4 then ended context EndsCut
    else if number_of order 4 text == size then packets_in selection (behind_other context size) (drop 4 text)
    else ended context (EndsFaulty (block_fault_at context BadLength))

-- where an input stands: in front of a text; in a text that is told as it is; in front of a block; so many octets in front
-- of the second length of a block that says nothing; at the end, and at a fault, with how many packets were left out
pub data Stand : Type 0 where
  Begun : Stand
  Plain : Stand
  Within : (context : Context) → Stand
  Passing : (context : Context) (order : Order) (size left : ℕ) → Stand
  Over : (left_out : ℕ) → Stand
  Faulty : (left_out : ℕ) (fault : PcapngFault) → Stand

-- what is told of the text that stands there
abbrev pub told_at : Selection → Stand → List ℕ → Told
told_at selection Begun text = told_text selection text
told_at selection Plain text = told_plain text
told_at selection (Within context) text = told_reading (packets_in selection context text)
told_at selection (Passing context order size left) text = told_reading (packets_closing selection context order size (drop left text))
told_at selection (Over left_out) text = told_end left_out EndsWhole
told_at selection (Faulty left_out fault) text = told_end left_out (EndsFaulty fault)

-- the fault that was met, if any
abbrev pub met : Stand → Option PcapngFault
met Begun = None
met Plain = None
met (Within context) = None
met (Passing context order size left) = None
met (Over left_out) = None
met (Faulty left_out fault) = Some fault

-- how many packets were left out yet
abbrev pub left_out_at : Stand → ℕ
left_out_at Begun = 0
left_out_at Plain = 0
left_out_at (Within context) = context.left_out
left_out_at (Passing context order size left) = context.left_out
left_out_at (Over left_out) = left_out
left_out_at (Faulty left_out fault) = left_out
