-- The texts of blocks (draft-ietf-opsawg-pcapng, 3.1 and 4.1), and that each is read as its block.
use Rattle.std.specs.Prelude.{◌≡◌, ◌<◌, ◌≤◌, ℕ, ◌+◌, ◌%◌, ◌^◌, ◌==◌, IsTrue, MatchBool, List, ◌++◌, length, Option, Some}
use Rattle.wire.specs.Octets.{IsText}
use Rattle.pcap.specs.Style.{octets_of}
use Rattle.pcap.specs.declared.text.style.Order.{Order}
use Rattle.pcapng_input.specs.Block.{AnotherBlock, Block, byte_order_magic, is_read, longest_block, next_block, section_header}

-- a block as a text: its type, its length, its body and its length again, in its byte order
abbrev pub block_text : Block → List ℕ
block_text block =
    octets_of block.order 4 block.kind
    ++ (octets_of block.order 4 (12 + length block.body) ++ (block.body ++ octets_of block.order 4 (12 + length block.body)))

-- a section header's body begins with the magic in its own byte order
abbrev pub BeginsWithMagic : Block → Type 0
BeginsWithMagic block = (more : List ℕ) × (block.body ≡ octets_of block.order 4 byte_order_magic ++ more)

-- a text is that of a block in a section of this byte order, or in none: each block but a section header stands in a
-- section of its own byte order
pub record IsBlockText (section : Option Order) (block : Block) (text : List ℕ) : Type 0 where
  pub kind_fits : block.kind < 2 ^ 32
  pub is_padded : length block.body % 4 ≡ 0
  pub size_fits : 12 + length block.body < 2 ^ 32
  pub room : IsTrue (is_read block.kind) → 12 + length block.body ≤ longest_block
  pub stands : MatchBool (block.kind == section_header) (BeginsWithMagic block) (section ≡ Some block.order)
  pub whole : text ≡ block_text block

-- a law: where a block's text stands in front, that block is next, and behind it comes the rest
abbrev pub ReadsBlockTexts : Type 0
ReadsBlockTexts = (section : Option Order) (block : Block) (text behind : List ℕ) → IsBlockText section block text
    → next_block section (text ++ behind) ≡ AnotherBlock block behind

-- a law: where a block is next, its text stands in front
abbrev pub FindsBlockTexts : Type 0
FindsBlockTexts = (section : Option Order) (block : Block) (text rest : List ℕ)
    → IsText text → next_block section text ≡ AnotherBlock block rest
    → (front : List ℕ) × IsBlockText section block front × (text ≡ front ++ rest)
