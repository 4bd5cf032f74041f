-- What a block means (draft-ietf-opsawg-pcapng, 4.1 to 4.4 and A.1).
use Rattle.std.specs.Prelude.{ℕ, ◌+◌, ◌==◌, ◌&&◌, not, nat_lt, if◌then◌else◌, Bool, List}
use Rattle.std.specs.Prelude.{length, drop, Option, Some, None, Result, Ok, Err, ⊤}
use Rattle.pcap.specs.Record.{IsWithinLimits, Record}
use Rattle.pcap.specs.Style.{number_of}
use Rattle.pcapng_input.specs.Block.{Block, interface_description, is_of_packet, obsolete_packet, section_header, simple_packet}
use Rattle.pcapng_input.specs.Interface.{described}
use Rattle.pcapng_input.specs.Options.{padded}
use Rattle.pcapng_input.specs.Packet.{enhanced_head, is_outbound_in, obsolete_head, packet_record, simple_head}
use Rattle.pcapng_input.specs.declared.fault.BlockFault.{BlockFault}
use Rattle.pcapng_input.specs.declared.fault.BlockFault.TheVariants.{BadVersion, ShortBlock, TooManyInterfaces}
use Rattle.pcapng_input.specs.declared.interface.Interface.{Interface}
use Rattle.pcapng_input.specs.declared.interface.Selection.{Selection}
use Rattle.pcapng_input.specs.declared.meaning.BlockMeaning.{BlockMeaning}
use Rattle.pcapng_input.specs.declared.meaning.BlockMeaning.TheVariants.{Described, Nothing, Outbound, Packet, Section}
use Rattle.pcapng_input.specs.declared.packet.PacketHead.{PacketHead}

-- the interfaces of a section at most
abbrev pub most_interfaces : ℕ
most_interfaces = 4096

-- a section header: the magic, a major and a minor version of 16 bits each, and a length of 64 bits, which is ignored
unfoldable pub section_in : Block → Result BlockMeaning BlockFault
section_in block =
    if nat_lt (length block.body) 16 then Err ShortBlock
    else if number_of block.order 2 (drop 4 block.body) == 1 then Ok Section
    else Err BadVersion

-- an interface that was described, or why not
abbrev pub interface_meaning : Result Interface BlockFault → Result BlockMeaning BlockFault
interface_meaning (Err fault) = Err fault
interface_meaning (Ok interface) = Ok (Described interface)

-- the description of one more interface than these
unfoldable pub interface_in : Selection → List Interface → Block → Result BlockMeaning BlockFault
interface_in selection interfaces block =
    if nat_lt (length interfaces) most_interfaces
    then interface_meaning (described selection (length interfaces) block.order block.body)
    else Err TooManyInterfaces

-- the octets in front of a packet's, in a block of this type
abbrev pub head_size : ℕ → ℕ
head_size kind = if kind == simple_packet then 4 else 20

-- the numbers that stand there
abbrev pub head_in : Block → PacketHead
head_in block =
    if block.kind == simple_packet then simple_head block.order block.body
    else if block.kind == obsolete_packet then obsolete_head block.order block.body
    else enhanced_head block.order block.body

-- the number of the interface that a packet block names, where it has one
unfoldable pub interface_named : Block → Option ℕ
interface_named block =
    if not (is_of_packet block.kind) then None
    else if nat_lt (length block.body) (head_size block.kind) then None
    else Some (head_in block).interface

-- the text behind so many octets of a packet, padded to 32 bits: the block's options
abbrev pub behind_octets : ℕ → Block → List ℕ
behind_octets size block = drop (head_size block.kind + padded size) block.body

-- a packet of so many octets is outbound by the options of its block: a simple packet block has none
abbrev pub is_outbound : ℕ → Block → Bool
is_outbound size block = not (block.kind == simple_packet) && is_outbound_in block.order (behind_octets size block)

-- what the record of a packet means: one that is outbound is left out
abbrev pub record_meaning : Bool → Record → BlockMeaning
record_meaning is_left_out r = if is_left_out then Outbound else Packet r

-- a packet's meaning by its record: nothing where its interface isn't selected
abbrev pub packet_meaning : Block → Result (Option Record) BlockFault → Result BlockMeaning BlockFault
packet_meaning block (Err fault) = Err fault
packet_meaning block (Ok None) = Ok Nothing
packet_meaning block (Ok (Some r)) = Ok (record_meaning (is_outbound (length r.octets) block) r)

-- a packet behind one at that moment, in a section with these interfaces
unfoldable pub packet_in : List Interface → ℕ → Block → Result BlockMeaning BlockFault
packet_in interfaces last block =
    if nat_lt (length block.body) (head_size block.kind) then Err ShortBlock
    else packet_meaning block (packet_record interfaces last (head_in block) (drop (head_size block.kind) block.body))

-- what a block means, by its type: one of another type means nothing, whatever it holds
unfoldable pub block_meaning : Selection → List Interface → ℕ → Block → Result BlockMeaning BlockFault
block_meaning selection interfaces last block =
    if block.kind == section_header then section_in block
    else if block.kind == interface_description then interface_in selection interfaces block
    else if is_of_packet block.kind then packet_in interfaces last block
    else Ok Nothing

-- what is meant keeps to the limits: a record to those of a classic capture
abbrev pub IsMeantWithinLimits : BlockMeaning → Type 0
IsMeantWithinLimits Section = ⊤
IsMeantWithinLimits (Described interface) = ⊤
IsMeantWithinLimits (Packet r) = IsWithinLimits r
IsMeantWithinLimits Outbound = ⊤
IsMeantWithinLimits Nothing = ⊤
