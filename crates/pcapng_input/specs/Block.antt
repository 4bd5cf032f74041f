-- Blocks (draft-ietf-opsawg-pcapng, 3.1 and 4.1): a type and a length of 32 bits each, the body, and the length again, in
-- the byte order that the header of their section tells.
use Rattle.std.specs.Prelude.{ℕ, ◌-◌, ◌%◌, ◌==◌, ◌&&◌, ◌||◌, not, nat_lt, if◌then◌else◌}
use Rattle.std.specs.Prelude.{Bool, List, [], ◌∷◌, length, drop, Option, Some, None}
use Rattle.std.specs.List.{find}
use Rattle.wire.specs.Octets.{part}
use Rattle.pcap.specs.Style.{number_of}
use Rattle.pcap.specs.declared.text.style.Order.{Order}
use Rattle.pcap.specs.declared.text.style.Order.TheVariants.{Big, Little}
use Rattle.pcapng_input.specs.declared.fault.BlockFault.{BlockFault}
use Rattle.pcapng_input.specs.declared.fault.BlockFault.TheVariants.{NoSection, BadLength, TooLarge}

-- a block: the byte order of its section, its type, and its body
pub record Block : Type 0 where
  pub order : Order
  pub kind : ℕ
  pub body : List ℕ

-- the types of the blocks that are read (4.1, 4.2, 4.3, 4.4, and A.1): a section header, whose type reads the same in
-- both byte orders, an interface description, an enhanced, a simple and an obsolete packet block
abbrev pub section_header : ℕ
section_header = 0x0A0D0D0A

-- 4.2
abbrev pub interface_description : ℕ
interface_description = 1

-- A.1
abbrev pub obsolete_packet : ℕ
obsolete_packet = 2

-- 4.4
abbrev pub simple_packet : ℕ
simple_packet = 3

-- 4.3
abbrev pub enhanced_packet : ℕ
enhanced_packet = 6

-- a block of such a type holds a packet
abbrev pub is_of_packet : ℕ → Bool
is_of_packet kind = kind == obsolete_packet || kind == simple_packet || kind == enhanced_packet

-- a block of another type says nothing that a classic capture tells
abbrev pub is_read : ℕ → Bool
is_read kind = kind == section_header || kind == interface_description || is_of_packet kind

-- the number that a section header begins its body with, in its byte order (4.1)
abbrev pub byte_order_magic : ℕ
byte_order_magic = 0x1A2B3C4D

-- a text begins with a section header's type
abbrev pub is_section : List ℕ → Bool
is_section text = number_of Big 4 text == section_header

-- the byte order that a section header tells
abbrev pub told_order : List ℕ → Option Order
told_order text = find (λ order. number_of order 4 (drop 8 text) == byte_order_magic) (Big ∷ Little ∷ [])

-- the byte order of a block that a text begins with: a section header's own, or that of the section it stands in, if any
abbrev pub order_at : Option Order → List ℕ → Option Order
order_at section text = if is_section text then told_order text else section

-- no block has this length: at least the type and both lengths are there, and blocks are padded to 32 bits
abbrev pub is_no_length : ℕ → Bool
is_no_length size = nat_lt size 12 || not (size % 4 == 0)

-- the octets of a block that is read at most: those of the longest packet of a classic capture, and 65,536 for the rest
abbrev pub longest_block : ℕ
longest_block = 327680

-- how the blocks of a text end: with nothing behind them, with a rest that is no whole block, or with a fault
pub data BlockEnd : Type 0 where
  AllRead : BlockEnd
  CutShort : BlockEnd
  Refused : (fault : BlockFault) → BlockEnd

-- another block and the text behind it, or how the blocks end
pub data NextBlock : Type 0 where
  AnotherBlock : (block : Block) (rest : List ℕ) → NextBlock
  NoBlock : (end : BlockEnd) → NextBlock

-- the block of this length that a text begins with
abbrev pub block_at : Order → ℕ → List ℕ → Block
block_at order size text = record { order = order; kind = number_of order 4 text; body = part 8 (size - 12) text }

-- what a text of 12 octets or more begins with, by its length in this byte order
abbrev pub block_by_length : Order → ℕ → List ℕ → NextBlock
block_by_length order size text =
    if is_no_length size then NoBlock (Refused BadLength)
    else if is_read (number_of order 4 text) && nat_lt longest_block size then NoBlock (Refused TooLarge)
    else if nat_lt (length text) size then NoBlock CutShort
    else if number_of order 4 (drop (size - 4) text) == size then AnotherBlock (block_at order size text) (drop size text)
    else NoBlock (Refused BadLength)

-- what it begins with, by its byte order
abbrev pub block_by_order : Option Order → List ℕ → NextBlock
block_by_order None text = NoBlock (Refused NoSection)
block_by_order (Some order) text = block_by_length order (number_of order 4 (drop 4 text)) text

-- how the blocks end where there is no room for another: each text has a section header at least
abbrev pub end_by_size : Option Order → ℕ → BlockEnd
end_by_size None size = Refused NoSection
end_by_size (Some order) size = if size == 0 then AllRead else CutShort

-- what comes next in a text of blocks that stands in a section of this byte order, or in none
unfoldable pub next_block : Option Order → List ℕ → NextBlock
next_block section text =
    if nat_lt (length text) 12 then NoBlock (end_by_size section (length text))
    else block_by_order (order_at section text) text
