-- Packets (draft-ietf-opsawg-pcapng, 4.3, 4.4 and A.1), as records of a classic capture.
use Rattle.std.specs.Prelude.{ℕ, ◌+◌, ◌*◌, ◌%◌, ◌==◌, ◌&&◌, nat_lt, not, if◌then◌else◌, Bool, false, min, List}
use Rattle.std.specs.Prelude.{length, take, drop, Option, Some, None, unwrap_or, Result, Ok, Err, slice_get}
use Rattle.pcap.specs.Header.{ethernet}
use Rattle.pcap.specs.Record.{Record, longest}
use Rattle.pcap.specs.Style.{number_of}
use Rattle.pcap.specs.declared.text.style.Order.{Order}
use Rattle.pcapng_input.specs.Moments.{offset_moment, ticks_in_nanoseconds}
use Rattle.pcapng_input.specs.Options.{block_options, option_value}
use Rattle.pcapng_input.specs.declared.fault.BlockFault.{BlockFault}
use Rattle.pcapng_input.specs.declared.fault.BlockFault.TheVariants.{BadLink, BadMoment, ShortBlock, TooLarge, UnknownInterface}
use Rattle.pcapng_input.specs.declared.interface.Interface.{Interface}
use Rattle.pcapng_input.specs.declared.packet.PacketHead.{PacketHead}

-- the numbers in front of a packet's octets in an enhanced or an obsolete packet block: behind the number of its
-- interface the ticks, high half first, the captured and the original length, 32 bits each
abbrev pub timed_head : ℕ → Order → List ℕ → PacketHead
timed_head interface order body = record {
  interface = interface;
  ticks = Some (number_of order 4 (drop 4 body) * 4294967296 + number_of order 4 (drop 8 body));
  captured = Some (number_of order 4 (drop 12 body));
  original = number_of order 4 (drop 16 body);
}

-- in an enhanced packet block the interface has 32 bits, and the octets stand behind 20
unfoldable pub enhanced_head : Order → List ℕ → PacketHead
enhanced_head order body = timed_head (number_of order 4 body) order body

-- in an obsolete packet block it has 16, and a count of drops stands behind it
unfoldable pub obsolete_head : Order → List ℕ → PacketHead
obsolete_head order body = timed_head (number_of order 2 body) order body

-- in a simple packet block stands the original length alone, in front of the octets: it is of interface 0
unfoldable pub simple_head : Order → List ℕ → PacketHead
simple_head order body = record { interface = 0; ticks = None; captured = None; original = number_of order 4 body }

-- ---- the direction of a packet

-- the options `epb_flags` of an enhanced (4.3.1) and `pack_flags` of an obsolete packet block (A.1)
abbrev pub packet_flags : ℕ
packet_flags = 2

-- flags have 32 bits, the lowest two of which tell the direction: 0 isn't known, 1 is inbound, 2 is outbound, and 3 is reserved.
-- Where an option of this code has another length, the direction isn't known
abbrev pub is_outbound_by : Order → Option (List ℕ) → Bool
is_outbound_by order None = false
is_outbound_by order (Some flags) = length flags == 4 && number_of order 4 flags % 4 == 2

-- the packet is outbound by the options of its block that this text begins with
unfoldable pub is_outbound_in : Order → List ℕ → Bool
is_outbound_in order text = is_outbound_by order (option_value packet_flags (block_options order text).options)

-- ---- a packet's record

-- a length limited by a snapshot length, 0 of which is no limit
abbrev pub snapped : ℕ → ℕ → ℕ
snapped snap size = if snap == 0 then size else min snap size

-- how many octets were captured: where the block doesn't say, as many as the snapshot length lets through
abbrev pub captured_length : Interface → PacketHead → ℕ
captured_length interface head = unwrap_or head.captured (snapped interface.snap head.original)

-- the moment of a packet: where the block has none, that of the packet before it
abbrev pub moment_by : Interface → ℕ → Option ℕ → Option ℕ
moment_by interface last None = Some last
moment_by interface last (Some ticks) = offset_moment interface.offset (ticks_in_nanoseconds interface.resolution ticks)

-- the record at a moment, if a classic capture can tell it
abbrev pub record_at : Option ℕ → ℕ → List ℕ → Result (Option Record) BlockFault
record_at None original octets = Err BadMoment
record_at (Some moment) original octets = Ok (Some (record { moment = moment; original = original; octets = octets }))

-- the record of a packet of an interface that is selected
unfoldable pub selected_record : Interface → ℕ → PacketHead → List ℕ → Result (Option Record) BlockFault
selected_record interface last head octets =
    let captured = captured_length interface head in
    if not (interface.link == ethernet) then Err BadLink
    else if nat_lt longest captured then Err TooLarge
    else if nat_lt (length octets) captured then Err ShortBlock
    else record_at (moment_by interface last head.ticks) head.original (take captured octets)

-- the record of a packet, by its interface: none where that isn't selected
abbrev pub packet_by : Option Interface → ℕ → PacketHead → List ℕ → Result (Option Record) BlockFault
packet_by None last head octets = Err UnknownInterface
packet_by (Some interface) last head octets =
    if interface.is_selected then selected_record interface last head octets else Ok None

-- the record of a packet with this head and these octets behind it, in a section with these interfaces
abbrev pub packet_record : List Interface → ℕ → PacketHead → List ℕ → Result (Option Record) BlockFault
packet_record interfaces last head octets = packet_by (slice_get interfaces head.interface) last head octets
