-- Of each interface of a pcapng text what is still to be told of it (draft-ietf-opsawg-pcapng), as where its packets alone are
-- asked for.
use Rattle.std.specs.Prelude.{ℕ, suc, ◌==◌, Bool, List, [], ◌∷◌, Option, Some, None, slice_index_or}
use Rattle.pcap.specs.declared.text.style.Order.{Order}
use Rattle.pcapng_input.specs.Adapted.{Told, told_end, told_reading}
use Rattle.pcapng_input.specs.Reading.{Context, EndsFaulty, packets_in}
use Rattle.pcapng_input.specs.declared.fault.PcapngFault.{PcapngFault}
use Rattle.pcapng_input.specs.declared.interface.Interface.{Interface}
use Rattle.pcapng_input.specs.declared.interface.Selection.TheVariants.{Number}
use Rattle.split_on_files.specs.declared.capture_split.lane.Lane.{Lane}

-- what is known in front of a block whichever interface is asked for: the byte order of its section, if there is one, the
-- interfaces that the section has described, and how many blocks and octets stand before it
pub record Section : Type 0 where
  pub order : Option Order
  pub interfaces : List Interface
  pub blocks : ℕ
  pub offset : ℕ

-- in front of the first block
abbrev pub beginning : Section
beginning = record { order = None; interfaces = []; blocks = 0; offset = 0 }

-- of an interface of which nothing came yet
abbrev pub empty_lane : Lane
empty_lane = record { last = 0; left_out = 0; fault = None }

-- that of the interface with this number
abbrev pub lane_at : List Lane → ℕ → Lane
lane_at lanes number = slice_index_or lanes number empty_lane

-- an interface that is selected or not
abbrev pub as_selected : Bool → Interface → Interface
as_selected is_selected i = record i { is_selected = is_selected }

-- interfaces of which the first has the number `from`, and the one with the number `chosen` alone is selected
abbrev pub only : ℕ → ℕ → List Interface → List Interface
only chosen from [] = []
only chosen from (i ∷ more) = as_selected (chosen == from) i ∷ only chosen (suc from) more

-- what is known in front of a block where the interface with this number is asked for
abbrev pub context_of : Section → ℕ → Lane → Context
context_of section number lane = record {
  order = section.order;
  interfaces = only number 0 section.interfaces;
  last = lane.last;
  left_out = lane.left_out;
  blocks = section.blocks;
  offset = section.offset;
}

-- what is told of an interface with this text still to come: nothing behind its first fault
abbrev pub told_in : Section → ℕ → Option PcapngFault → Lane → List ℕ → Told
told_in section number None lane text = told_reading (packets_in (Number number) (context_of section number lane) text)
told_in section number (Some fault) lane text = told_end lane.left_out (EndsFaulty fault)

abbrev pub told_of : Section → List Lane → ℕ → List ℕ → Told
told_of section lanes number text = told_in section number (lane_at lanes number).fault (lane_at lanes number) text
