-- The blocks of an input, one after another (draft-ietf-opsawg-pcapng, 3), without what they mean.
use Rattle.std.specs.Prelude.{◌≡◌, ◌<◌, ◌≤◌, ℕ, ◌+◌, ◌-◌, ◌*◌, ◌==◌, Bool, true, false, List}
use Rattle.std.specs.Prelude.{[], ◌++◌, length, drop, Option, Some, None, option_map, IfSome, ⊤}
use Rattle.std.specs.Io.KnownBytes.{Consumes}
use Rattle.pcap.specs.Style.{number_of}
use Rattle.pcap.specs.declared.text.style.Order.{Order}
use Rattle.pcapng_input.specs.Adapter.{Gathered}
use Rattle.pcapng_input.specs.Block.{AnotherBlock, Block, CutShort, NextBlock, NoBlock, Refused}
use Rattle.pcapng_input.specs.Block.{is_no_length, is_read, longest_block, next_block, order_at}
use Rattle.pcapng_input.specs.declared.fault.BlockFault.TheVariants.{BadLength}
use Rattle.pcapng_input.specs.declared.filling.Filled.{Filled}
use Rattle.pcapng_input.specs.declared.filling.Filled.TheVariants as filled
use Rattle.pcapng_input.specs.declared.filling.Lack.{Lack}
use Rattle.pcapng_input.specs.declared.filling.Lack.TheVariants as lacking

-- the text that is still to be read, where the input tells it
abbrev pub text_left : Gathered → Option (List ℕ)
text_left g = option_map (λ rest. g.held ++ rest) g.supply.rest

-- what comes next in a text, of which some octets are read, comes next in these, whatever is behind them
abbrev pub StandsNext : NextBlock → NextBlock → List ℕ → Type 0
StandsNext (AnotherBlock block behind) next rest = next ≡ AnotherBlock block (behind ++ rest)
StandsNext (NoBlock end) next rest = next ≡ NoBlock end

-- a text begins with a block of so many octets, of a type that says nothing, and this text stands behind it
pub record IsPassedBlock (section : Option Order) (text behind : List ℕ) (size : ℕ) : Type 0 where
  pub block : Block
  pub next : next_block section text ≡ AnotherBlock block behind
  pub long : 12 + length block.body ≡ size
  pub other : is_read block.kind ≡ false

-- of two texts, where both are told; the second one is told where the first one is
abbrev pub OfTexts : (List ℕ → List ℕ → Type 0) → Option (List ℕ) → Option (List ℕ) → Type 0
OfTexts P None new = ⊤
OfTexts P (Some old) None = ⊥
OfTexts P (Some old) (Some new) = P old new

-- the text stays the same
abbrev pub KeepsText : Gathered → Gathered → Type 0
KeepsText old new = OfTexts (λ text rest. new.held ++ rest ≡ text) (text_left old) new.supply.rest

-- what was found in front of a text: what comes next in it stands in what is held now, or in front of that a block was passed
-- over, or such a block isn't whole
abbrev pub IsFilled : Option Order → Gathered → Gathered → Filled → Type 0
IsFilled section old new filled.Next =
    KeepsText old new
    × OfTexts (λ text rest. StandsNext (next_block section new.held) (next_block section text) rest) (text_left old) new.supply.rest
IsFilled section old new (filled.Passed size) =
    OfTexts (λ text rest. IsPassedBlock section text (new.held ++ rest) size) (text_left old) new.supply.rest
IsFilled section old new filled.Cut = IfSome (text_left old) (λ text. next_block section text ≡ NoBlock CutShort)
IsFilled section old new filled.Unequal = IfSome (text_left old) (λ text. next_block section text ≡ NoBlock (Refused BadLength))

-- the octets that may still be read at most, of reads of so many
abbrev pub octets_left : Gathered → ℕ
octets_left g = length g.held + g.supply.reads * 327680

-- a block that was passed over has its type and both lengths
abbrev pub PassesBlock : Filled → Type 0
PassesBlock filled.Next = ⊤
PassesBlock (filled.Passed size) = 12 ≤ size
PassesBlock filled.Cut = ⊤
PassesBlock filled.Unequal = ⊤

-- the octets of a block that was passed over
abbrev pub octets_passed : Filled → ℕ
octets_passed filled.Next = 0
octets_passed (filled.Passed size) = size
octets_passed filled.Cut = 0
octets_passed filled.Unequal = 0

-- ---- within a block. It serves proofs.

-- some octets begin a block of this length, of a type that says nothing, that is longer than those that are read
pub record IsLongBlock (section : Option Order) (held : List ℕ) (order : Order) (size : ℕ) : Type 0 where
  pub head : 12 ≤ length held
  pub room : length held + 4 ≤ size
  pub told : order_at section held ≡ Some order
  pub told_size : number_of order 4 (drop 4 held) ≡ size
  pub fine : is_no_length size ≡ false
  pub other : is_read (number_of order 4 held) ≡ false

-- what is lacking of what comes next
abbrev pub IsLacking : Option Order → List ℕ → Lack → Type 0
IsLacking section held lacking.Nothing = (rest : List ℕ) → StandsNext (next_block section held) (next_block section (held ++ rest)) rest
IsLacking section held (lacking.Octets size) = (length held < size) × (size ≤ longest_block)
IsLacking section held (lacking.Long order size) = IsLongBlock section held order size

-- so many octets of what one input has left are behind
pub record IsBehind (old new : Option (List ℕ)) (count : ℕ) : Type 0 where
  pub taken : List ℕ
  pub many : length taken ≡ count
  pub consumed : Consumes old new taken

-- an input that tells its octets has fewer left
abbrev pub HasFewer : Option (List ℕ) → ℕ → Type 0
HasFewer None count = ⊤
HasFewer (Some rest) count = length rest < count

-- so many octets were passed over, or there were fewer
abbrev pub PassesBody : Gathered → Gathered → ℕ → Bool → Type 0
PassesBody old new count true =
    IsBehind old.supply.rest new.supply.rest count × (new.held ≡ []) × (octets_left new + count ≤ octets_left old)
PassesBody old new count false = HasFewer old.supply.rest count

-- the number in the next four octets, or there were fewer
pub record IsNumberNext (order : Order) (old new : Gathered) (number : ℕ) : Type 0 where
  pub behind : IsBehind old.supply.rest new.supply.rest 4
  pub read : number_of order 4 behind.taken ≡ number
  pub held : new.held ≡ []
  pub left : octets_left new + 4 ≤ octets_left old

-- a text begins with a block of this length that has this second length
pub record PassesOver (order : Order) (size : ℕ) (text behind : List ℕ) : Type 0 where
  pub fits : size ≤ length text
  pub then : drop size text ≡ behind
  pub second : number_of order 4 (drop (size - 4) text) ≡ size

-- or one that has another
pub record IsUnequal (order : Order) (size : ℕ) (text : List ℕ) : Type 0 where
  pub fits : size ≤ length text
  pub second : (number_of order 4 (drop (size - 4) text) == size) ≡ false

-- what was found of a block of this length
abbrev pub IsPassedOver : Order → ℕ → Gathered → Gathered → Filled → Type 0
IsPassedOver order size old new filled.Next = ⊥
IsPassedOver order size old new (filled.Passed passed) =
    (passed ≡ size) × OfTexts (λ text rest. PassesOver order size text (new.held ++ rest)) (text_left old) new.supply.rest
IsPassedOver order size old new filled.Cut = IfSome (text_left old) (λ text. length text < size)
IsPassedOver order size old new filled.Unequal = IfSome (text_left old) (IsUnequal order size)
