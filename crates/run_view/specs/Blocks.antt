-- The blocks of a view (draft-ietf-opsawg-pcapng, 3 and 4): little-endian, what is padded is padded with zeros.
--     section_block, interface_block      what stands in front: a section header and the interfaces
--     Packet, packet_block      a packet, with its comment, its direction and its event
--     journal_block      what is no packet: an entry of a journal
--     head_text      the head: a section, and an interface for each port and the underlay
--     Item, text_of      either of the two, and many one behind another
use Rattle.std.specs.Prelude.{ℕ, zero, suc, ◌+◌, ◌-◌, ◌/◌, ◌%◌, List, [], ◌∷◌, ◌++◌, length, take, codes, decimal}
use Rattle.std.specs.List.{flat_map}
use Rattle.pcap.specs.Header.{ethernet}
use Rattle.pcap.specs.Record.{longest}
use Rattle.pcap.specs.Style.{octets_of}
use Rattle.pcap.specs.declared.text.style.Order.TheVariants.{Little}
use Rattle.pcapng_input.specs.Block.{Block, byte_order_magic, enhanced_packet, interface_description, section_header}
use Rattle.pcapng_input.specs.BlockText.{block_text}
use Rattle.pcapng_input.specs.Options.{padded}
use Rattle.pcapng_input.specs.Packet.{packet_flags}

-- ---- numbers and options (3.5)

-- a number in two octets
unfoldable pub two : ℕ → List ℕ
two n = octets_of Little 2 n

-- in four
unfoldable pub four : ℕ → List ℕ
four n = octets_of Little 4 n

-- in eight
unfoldable pub eight : ℕ → List ℕ
eight n = octets_of Little 8 n

-- what stands behind so many octets, up to a multiple of four
unfoldable pub padding : ℕ → List ℕ
padding size = take (padded size - size) (0 ∷ 0 ∷ 0 ∷ [])

-- an option
unfoldable pub option_text : ℕ → List ℕ → List ℕ
option_text code value = two code ++ (two (length value) ++ (value ++ padding (length value)))

-- the end of the options
abbrev pub end_of_options : List ℕ
end_of_options = four 0

-- the code of `opt_comment`, a comment (3.5)
abbrev pub comment_option : ℕ
comment_option = 1

-- of `shb_userappl`, the program that wrote a section (4.1)
abbrev pub application_option : ℕ
application_option = 4

-- of `if_name`, the name of an interface (4.2)
abbrev pub name_option : ℕ
name_option = 2

-- of `if_tsresol`, the length of its ticks (4.2)
abbrev pub resolution_option : ℕ
resolution_option = 9

-- of `epb_packetid`, the number of a packet (4.3)
abbrev pub packet_id_option : ℕ
packet_id_option = 5

-- ---- what stands in front

-- a block of this type
abbrev pub block_of : ℕ → List ℕ → Block
block_of kind body = record { order = Little; kind = kind; body = body }

-- version 1.0, a length that isn't told, and what the directions say
unfoldable pub section_block : Block
section_block = block_of section_header
    (four byte_order_magic ++ (two 1 ++ (two 0 ++ (eight 18446744073709551615
    ++ (option_text comment_option (codes "inbound: captured; outbound: worked out by tep")
    ++ (option_text application_option (codes "tep") ++ end_of_options))))))

-- an interface of this name: Ethernet, the octets of a record at most, nanoseconds
unfoldable pub interface_block : List ℕ → Block
interface_block name = block_of interface_description
    (two ethernet ++ (two 0 ++ (four longest
    ++ (option_text name_option name ++ (option_text resolution_option (9 ∷ []) ++ end_of_options)))))

-- ---- packets (4.3)

-- a packet came, or left
abbrev pub inbound : ℕ
inbound = 1

-- left
abbrev pub outbound : ℕ
outbound = 2

-- what a packet tells: its interface, its moment in nanoseconds, its original length, and its octets
pub record Packet : Type 0 where
  pub interface : ℕ
  pub moment : ℕ
  pub original : ℕ
  pub octets : List ℕ

-- what is said of it: a comment, its direction, and the number of its event
pub record Remark : Type 0 where
  pub comment : List ℕ
  pub direction : ℕ
  pub event : ℕ

-- in front of its octets: its interface, its moment with the high half first, how many octets there are, and how many it had
unfoldable pub packet_front : ℕ → ℕ → ℕ → ℕ → List ℕ
packet_front interface moment captured original =
    four interface ++ (four (moment / 4294967296) ++ (four (moment % 4294967296) ++ (four captured ++ four original)))

-- behind them
unfoldable pub packet_options : Remark → List ℕ
packet_options r =
    option_text comment_option r.comment
    ++ (option_text packet_flags (four r.direction) ++ (option_text packet_id_option (eight r.event) ++ end_of_options))

-- a packet and what is said of it
unfoldable pub packet_block : Packet → Remark → Block
packet_block p r = block_of enhanced_packet
    (packet_front p.interface p.moment (length p.octets) p.original ++ (p.octets ++ (padding (length p.octets) ++ packet_options r)))

-- ---- what is no packet: an entry of systemd's journal (4.7), by its fields

-- its block type
abbrev pub journal_export : ℕ
journal_export = 9

-- when it was, in microseconds, by whom, and the message
abbrev pub journal_fields : ℕ → List ℕ → List ℕ
journal_fields moment message =
    codes "__REALTIME_TIMESTAMP=" ++ (decimal (moment / 1000) ++ (codes "\nSYSLOG_IDENTIFIER=tep\nMESSAGE=" ++ (message ++ 10 ∷ [])))

-- the entry of a moment in nanoseconds
unfoldable pub journal_block : ℕ → List ℕ → Block
journal_block moment message =
    block_of journal_export (journal_fields moment message ++ padding (length (journal_fields moment message)))

-- ---- texts

-- the octets of a comment at most: an option has 65,535, and a line fewer than half of these
abbrev pub longest_comment : ℕ
longest_comment = 65000

-- no more of a text is told
unfoldable pub comment_of : List ℕ → List ℕ
comment_of text = take longest_comment text

-- ---- the head

-- the interfaces of the ports, from this one on so many
abbrev pub port_blocks : ℕ → ℕ → List Block
port_blocks port zero = []
port_blocks port (suc n) = interface_block (codes "p" ++ decimal port) ∷ port_blocks (port + 1) n

-- the section, the interfaces of so many ports, and the underlay's behind them
unfoldable pub head_text : ℕ → List ℕ
head_text ports = block_text section_block ++ (flat_map block_text (port_blocks 1 ports) ++ block_text (interface_block (codes "u")))

-- ---- what is told: a packet and what is said of it, or a message at a moment

pub data Item : Type 0 where
  Shown : (packet : Packet) (remark : Remark) → Item
  Noted : (moment : ℕ) (message : List ℕ) → Item

-- its block
abbrev pub item_block : Item → Block
item_block (Shown p r) = packet_block p r
item_block (Noted moment message) = journal_block moment message

-- its text
abbrev pub item_text : Item → List ℕ
item_text item = block_text (item_block item)

-- their texts, one behind another
abbrev pub text_of : List Item → List ℕ
text_of items = flat_map item_text items
