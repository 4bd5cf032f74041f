-- The packets that a text of blocks begins with, and the records that are given of them. It serves proofs.
use Rattle.std.specs.Prelude.{◌≡◌, ◌<◌, ◌≤◌, ℕ, ◌+◌, ◌-◌, ◌%◌, nat_lt, if◌then◌else◌, not, Bool, true}
use Rattle.std.specs.Prelude.{false, List, ◌++◌, length, drop, slice_get, Option, Some, None, Ok, ⊤}
use Rattle.wire.specs.Octets.{part}
use Rattle.pcap.specs.Record.{IsWithinLimits, Record}
use Rattle.pcap.specs.Style.{number_of}
use Rattle.pcap.specs.declared.text.style.Order.{Order}
use Rattle.pcapng_input.specs.Adapted.{told_behind, told_reading}
use Rattle.pcapng_input.specs.Block.{enhanced_packet, is_section, longest_block}
use Rattle.pcapng_input.specs.Packet.{enhanced_head, packet_record}
use Rattle.pcapng_input.specs.Reading.{Context, packets_in}
use Rattle.pcapng_input.specs.declared.front.FrontPacket.{FrontPacket}
use Rattle.pcapng_input.specs.declared.front.FrontPacket.TheVariants as front
use Rattle.pcapng_input.specs.declared.interface.Interface.{Interface}
use Rattle.pcapng_input.specs.declared.interface.Selection.{Selection}

-- an interface was described, and isn't selected
abbrev pub is_other : Option Interface → Bool
is_other None = false
is_other (Some interface) = not interface.is_selected

-- a text begins with a whole enhanced packet block of so many octets
pub record IsEnhanced (order : Order) (text : List ℕ) (size : ℕ) : Type 0 where
  pub section : is_section text ≡ false
  pub kind : number_of order 4 text ≡ enhanced_packet
  pub told : number_of order 4 (drop 4 text) ≡ size
  pub again : number_of order 4 (drop (size - 4) text) ≡ size
  pub long : 32 ≤ size
  pub aligned : size % 4 ≡ 0
  pub room : size ≤ longest_block
  pub fits : size ≤ length text

-- the body of the block of so many octets that a text begins with
abbrev pub body_of : List ℕ → ℕ → List ℕ
body_of text size = part 8 (size - 12) text

-- behind a packet and its padding there is no room for an option
abbrev pub HasNoOptions : List ℕ → Record → Type 0
HasNoOptions body r = length (drop 20 body) < length r.octets + 4

-- the packet of a block, of which these octets stand behind its head, where behind it there is no room for an option
abbrev pub bare_packet : ℕ → List ℕ → Record → FrontPacket
bare_packet size octets r = if nat_lt (length octets) (length r.octets + 4) then front.Selected size r else front.Unknown

-- what is found in front of a text
abbrev pub IsFrontPacket : Order → List Interface → ℕ → List ℕ → FrontPacket → Type 0
IsFrontPacket order interfaces last text (front.Other size) =
    IsEnhanced order text size × (is_other (slice_get interfaces (number_of order 4 (body_of text size))) ≡ true)
IsFrontPacket order interfaces last text (front.Selected size r) =
    IsEnhanced order text size
    × (packet_record interfaces last (enhanced_head order (body_of text size)) (drop 20 (body_of text size)) ≡ Ok (Some r))
    × IsWithinLimits r × HasNoOptions (body_of text size) r
IsFrontPacket order interfaces last text front.Unknown = ⊤

-- behind the first octets of a text, so many of which are used, these are given, and the other packets are still to come
pub record GivesPackets (old new : Context) (text : List ℕ) (used : ℕ) (given : List ℕ) : Type 0 where
  pub blocks : new.blocks ≤ old.blocks + used
  pub offset : new.offset ≡ old.offset + used
  pub told : (selection : Selection) (rest : List ℕ)
      → told_behind given (told_reading (packets_in selection new (drop used text ++ rest)))
      ≡ told_reading (packets_in selection old (text ++ rest))
