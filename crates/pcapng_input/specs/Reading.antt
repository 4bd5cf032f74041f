-- The packets of a pcapng text as records, block by block, and how it ends (draft-ietf-opsawg-pcapng, 3 and 4).
use Rattle.std.specs.Prelude.{ℕ, zero, suc, ◌+◌, List, [], ◌∷◌, ◌++◌, length, Option, Some, None, Result, Ok, Err}
use Rattle.pcap.specs.Record.{Record}
use Rattle.pcap.specs.declared.text.style.Order.{Order}
use Rattle.pcapng_input.specs.Block.{AllRead, AnotherBlock, Block, BlockEnd, CutShort, NextBlock, NoBlock, Refused, next_block}
use Rattle.pcapng_input.specs.Meaning.{block_meaning}
use Rattle.pcapng_input.specs.declared.fault.BlockFault.{BlockFault}
use Rattle.pcapng_input.specs.declared.fault.PcapngFault.{PcapngFault}
use Rattle.pcapng_input.specs.declared.interface.Interface.{Interface}
use Rattle.pcapng_input.specs.declared.interface.Selection.{Selection}
use Rattle.pcapng_input.specs.declared.meaning.BlockMeaning.{BlockMeaning}
use Rattle.pcapng_input.specs.declared.meaning.BlockMeaning.TheVariants.{Described, Nothing, Outbound, Packet, Section}

-- what is known in front of a block: the byte order of its section, if there is one, the interfaces that the section has
-- described, the moment of the packet before, 0 where there is none, how many packets before it are outbound and so left out,
-- and how many blocks and octets stand before it
pub record Context : Type 0 where
  pub order : Option Order
  pub interfaces : List Interface
  pub last : ℕ
  pub left_out : ℕ
  pub blocks : ℕ
  pub offset : ℕ

-- in front of the first block
abbrev pub start : Context
start = record { order = None; interfaces = []; last = 0; left_out = 0; blocks = 0; offset = 0 }

-- the same behind a block, with what that says
abbrev pub behind_block : Context → Block → Option Order → List Interface → ℕ → ℕ → Context
behind_block context block order interfaces last left_out = record {
  order = order;
  interfaces = interfaces;
  last = last;
  left_out = left_out;
  blocks = context.blocks + 1;
  offset = context.offset + (12 + length block.body);
}

-- a section header begins a section without interfaces, in its own byte order; a description adds an interface to those of
-- the section; a packet tells the moment for those behind it; one that is left out is counted
abbrev pub context_behind : Context → Block → BlockMeaning → Context
context_behind context block Section = behind_block context block (Some block.order) [] context.last context.left_out
context_behind context block (Described interface) =
    behind_block context block context.order (context.interfaces ++ interface ∷ []) context.last context.left_out
context_behind context block (Packet r) = behind_block context block context.order context.interfaces r.moment context.left_out
context_behind context block Outbound = behind_block context block context.order context.interfaces context.last (context.left_out + 1)
context_behind context block Nothing = behind_block context block context.order context.interfaces context.last context.left_out

-- the record that is meant, if any
abbrev pub record_meant : BlockMeaning → Option Record
record_meant Section = None
record_meant (Described interface) = None
record_meant (Packet r) = Some r
record_meant Outbound = None
record_meant Nothing = None

-- what is known behind a block, and its record, if any
pub record Step : Type 0 where
  pub context : Context
  pub found : Option Record

-- the step of a block, by its meaning
abbrev pub step_by : Context → Block → Result BlockMeaning BlockFault → Result Step BlockFault
step_by context block (Err fault) = Err fault
step_by context block (Ok meant) = Ok (record { context = context_behind context block meant; found = record_meant meant })

-- the step of a block
unfoldable pub step_of : Selection → Context → Block → Result Step BlockFault
step_of selection context block = step_by context block (block_meaning selection context.interfaces context.last block)

-- ---- whole texts

-- how a text ends: behind a whole block, with a rest that is no whole block, or with the fault of a block
pub data TextEnd : Type 0 where
  EndsWhole : TextEnd
  EndsCut : TextEnd
  EndsFaulty : (fault : PcapngFault) → TextEnd

-- the packets of a text as records, how it ends, and how many packets are left out up to there
pub record PacketReading : Type 0 where
  pub records : List Record
  pub end : TextEnd
  pub left_out : ℕ

-- a fault of the block that stands here
abbrev pub block_fault_at : Context → BlockFault → PcapngFault
block_fault_at context fault = record { fault = fault; block = context.blocks + 1; offset = context.offset }

-- how a text ends, by what stands here
abbrev pub end_at : Context → BlockEnd → TextEnd
end_at context AllRead = EndsWhole
end_at context CutShort = EndsCut
end_at context (Refused fault) = EndsFaulty (block_fault_at context fault)

-- no more packets
abbrev pub ended : Context → TextEnd → PacketReading
ended context end = record { records = []; end = end; left_out = context.left_out }

-- a record, if there is one, in front of a reading
abbrev pub found_before : Option Record → PacketReading → PacketReading
found_before None reading = reading
found_before (Some r) reading = record { records = r ∷ reading.records; end = reading.end; left_out = reading.left_out }

-- the packets of a block and of the text behind it, by the block's step
abbrev pub reading_by_step : (Context → List ℕ → PacketReading) → Context → List ℕ → Result Step BlockFault → PacketReading
reading_by_step more context rest (Err fault) = ended context (EndsFaulty (block_fault_at context fault))
reading_by_step more context rest (Ok step) = found_before step.found (more step.context rest)

-- the same by what comes next
abbrev pub reading_by_block : (Context → List ℕ → PacketReading) → Selection → Context → NextBlock → PacketReading
reading_by_block more selection context (AnotherBlock block rest) = reading_by_step more context rest (step_of selection context block)
reading_by_block more selection context (NoBlock end) = ended context (end_at context end)

-- the packets of a text, where it has fewer than n blocks
unfoldable pub first_packets : ℕ → Selection → Context → List ℕ → PacketReading
first_packets zero selection context text = ended context EndsWhole
first_packets (suc n) selection context text =
    reading_by_block (first_packets n selection) selection context (next_block context.order text)

-- the packets of a text; there are no more blocks than it has octets
unfoldable pub packets_in : Selection → Context → List ℕ → PacketReading
packets_in selection context text = first_packets (suc (length text)) selection context text

-- the packets of a whole text
abbrev pub packets_of : Selection → List ℕ → PacketReading
packets_of selection text = packets_in selection start text
