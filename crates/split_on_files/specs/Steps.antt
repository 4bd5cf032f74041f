-- What a block tells of each interface.
use Rattle.std.specs.Prelude.{◌≡◌, ◌<◌, ◌≤◌, ℕ, ◌+◌, ◌==◌, true, if◌then◌else◌, List, []}
use Rattle.std.specs.Prelude.{◌∷◌, Option, None, Some, length, slice_get, slice_set, ⊤}
use Rattle.pcap.specs.Record.{last_moment}
use Rattle.pcapng_input.specs.Adapted.{Told, told_behind, told_end}
use Rattle.pcapng_input.specs.Block.{AnotherBlock, Block, next_block}
use Rattle.pcapng_input.specs.Interface.{name_told}
use Rattle.pcapng_input.specs.Meaning.{interface_named}
use Rattle.pcapng_input.specs.Reading.{EndsFaulty}
use Rattle.pcapng_input.specs.declared.fault.PcapngFault.{PcapngFault}
use Rattle.pcapng_input.specs.declared.interface.Interface.{Interface}
use Rattle.split_on_files.specs.Lanes.{Section, lane_at, told_of}
use Rattle.split_on_files.specs.declared.capture_split.lane.Lane.{Lane}
use Rattle.split_on_files.specs.declared.capture_split.taken.Taken.{Taken}
use Rattle.split_on_files.specs.declared.capture_split.taken.Taken.TheVariants as taken

-- what is known in front of a block of the section, and of each interface's packets by its number
pub record Lanes : Type 0 where
  pub section : Section
  pub lanes : List Lane

-- what is told of an interface where the text has this fault for all of them: nothing more, or its own fault before
abbrev pub told_at_fault : Lane → PcapngFault → Option PcapngFault → Told
told_at_fault lane fault None = told_end lane.left_out (EndsFaulty fault)
told_at_fault lane fault (Some own) = told_end lane.left_out (EndsFaulty own)

-- the octets of the record that a block tells of this interface
abbrev pub given_to : ℕ → Taken → List ℕ → List ℕ
given_to number taken.Nothing record_text = []
given_to number (taken.Described described) record_text = []
given_to number (taken.Packet of) record_text = if number == of then record_text else []
given_to number (taken.Refused fault) record_text = []

-- what is told of an interface behind a block
abbrev pub told_behind_block : Lanes → Lanes → Taken → ℕ → List ℕ → Told
told_behind_block old new taken.Nothing number rest = told_of new.section new.lanes number rest
told_behind_block old new (taken.Described described) number rest = told_of new.section new.lanes number rest
told_behind_block old new (taken.Packet of) number rest = told_of new.section new.lanes number rest
told_behind_block old new (taken.Refused fault) number rest =
    told_at_fault (lane_at old.lanes number) fault (lane_at old.lanes number).fault

-- the section behind a block of so many octets
abbrev pub section_past : Section → ℕ → Section
section_past section size = record {
  order = section.order;
  interfaces = section.interfaces;
  blocks = section.blocks + 1;
  offset = section.offset + size;
}

-- the same behind a block that makes this of the packets of the interface with this number
abbrev pub lanes_past : Lanes → ℕ → ℕ → Lane → Lanes
lanes_past l size number lane = record { section = section_past l.section size; lanes = slice_set l.lanes number lane }

-- or that makes nothing of any
abbrev pub same_past : Lanes → ℕ → Lanes
same_past l size = record { section = section_past l.section size; lanes = l.lanes }

-- of one more interface nothing came yet
abbrev pub IsLengthened : List Lane → List Lane → Type 0
IsLengthened old new = (number : ℕ) → lane_at new number ≡ lane_at old number

-- of each interface is told what the block gives to it, and then what is told behind the block
abbrev pub TellsAll : Lanes → Lanes → Block → Taken → List ℕ → Type 0
TellsAll old new block t record_text =
    (number : ℕ) (text rest : List ℕ) → AnotherBlock block rest ≡ next_block old.section.order text
    → told_of old.section old.lanes number text
    ≡ told_behind (given_to number t record_text) (told_behind_block old new t number rest)

-- the name that a description tells, empty where it tells none
abbrev pub name_text : Option (List ℕ) → List ℕ
name_text None = []
name_text (Some name) = name

-- a block that describes one more interface is told as such, with its number in its section and its name, and no other block is
abbrev pub TellsDescribed : Section → Section → Block → Taken → List ℕ → Type 0
TellsDescribed old new block (taken.Described number) name =
    (number ≡ length old.interfaces) × (length new.interfaces ≡ number + 1) × (name ≡ name_text (name_told block.order block.body))
TellsDescribed old new block t name = length new.interfaces ≤ length old.interfaces

-- all interfaces are marked as selected
abbrev pub AllTaken : List Interface → Type 0
AllTaken [] = ⊤
AllTaken (i ∷ more) = (i.is_selected ≡ true) × AllTaken more

-- a block holds a packet of an interface that was described
pub record IsOf (l : Lanes) (block : Block) (number : ℕ) : Type 0 where
  pub named : interface_named block ≡ Some number
  pub described : number < length l.section.interfaces
  pub known : number < length l.lanes
  pub taken : AllTaken l.section.interfaces

-- a block isn't one
abbrev pub IsOfNone : List Interface → Option ℕ → Type 0
IsOfNone interfaces None = ⊤
IsOfNone interfaces (Some number) = slice_get interfaces number ≡ None

-- the section stands behind a block of so many octets, but where the text has a fault
abbrev pub PlacesBehind : Section → Section → ℕ → Taken → Type 0
PlacesBehind old new size (taken.Refused fault) = new ≡ old
PlacesBehind old new size t = (new.blocks ≡ old.blocks + 1) × (new.offset ≡ old.offset + size)

-- ---- what is kept. It serves proofs.

-- what is known of each interface's packets is within its limits behind so many blocks
abbrev pub AllWithin : ℕ → List Lane → Type 0
AllWithin blocks [] = ⊤
AllWithin blocks (lane ∷ more) = (lane.last ≤ last_moment) × (lane.left_out ≤ blocks) × AllWithin blocks more
