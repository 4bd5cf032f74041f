-- The records of packets keep to the limits of a classic capture.
use Rattle.std.proofs.Common.{◌≡◌, refl, ℕ, zero, suc, ◌+◌, ◌-◌, ◌*◌, ◌^◌, ◌<◌, ◌≤◌, Bool, true, false, List, length, take, drop, arith, length-take-le, Option, None, Some, Result, Ok, Err, IfSome}
use Rattle.std.specs.List.{AllByRecursion}
use Rattle.std.specs.Prelude.{◌==◌, ◌&&◌, nat_lt, not, if◌then◌else◌, slice_get}
use Rattle.std.proofs.lemmas.Bool.{ltb-false}
use Rattle.wire.specs.Octets.{IsText}
use Rattle.wire.proofs.OctetsLemmas.{IsText-drop, IsText-take}
use Rattle.pcap.proofs.Numbers.{number_of-fits}
use Rattle.pcap.specs.Record.{IsWithinLimits, Record, last_moment, longest}
use Rattle.pcap.specs.Style.{number_of, second}
use Rattle.pcap.specs.declared.text.style.Order.{Order}
use Rattle.pcapng_input.specs.Block.{AnotherBlock, Block, CutShort, NextBlock, NoBlock, Refused, block_at, block_by_order, end_by_size, interface_description, is_no_length, is_of_packet, is_read, longest_block, next_block, obsolete_packet, order_at, section_header, simple_packet}
use Rattle.pcapng_input.specs.Interface.{described}
use Rattle.pcapng_input.specs.Meaning.{IsMeantWithinLimits, block_meaning, head_in, head_size, interface_in, interface_meaning, is_outbound, packet_in, packet_meaning, record_meaning, section_in}
use Rattle.pcapng_input.specs.Moments.{offset_moment, round, sign_bit, tellable, ticks_in_nanoseconds}
use Rattle.pcapng_input.specs.Packet.{captured_length, enhanced_head, moment_by, obsolete_head, packet_by, packet_record, selected_record, record_at, simple_head}
use Rattle.pcapng_input.specs.Reading.{Context, PacketReading, Step, first_packets, found_before, packets_in, packets_of, reading_by_block, reading_by_step, start, step_by, step_of}
use Rattle.pcapng_input.specs.declared.fault.BlockFault.{BlockFault}
use Rattle.pcapng_input.specs.declared.fault.BlockFault.TheVariants.{BadLength, BadLink, BadVersion, ShortBlock, TooLarge, TooManyInterfaces}
use Rattle.pcapng_input.specs.declared.interface.Interface.{Interface}
use Rattle.pcapng_input.specs.declared.interface.Selection.{Selection}
use Rattle.pcapng_input.specs.declared.meaning.BlockMeaning.{BlockMeaning}
use Rattle.pcapng_input.specs.declared.meaning.BlockMeaning.TheVariants.{Described, Nothing, Outbound, Packet, Section}
use Rattle.pcapng_input.specs.declared.packet.PacketHead.{PacketHead}

-- ---- moments

tellable-limit : (moment : ℕ) → IfSome (tellable moment) (λ told. told ≤ last_moment)
tellable-limit moment = by_test (nat_lt last_moment moment) refl
  where
    by_test : (b : Bool) → nat_lt last_moment moment ≡ b → IfSome (if b then None else Some moment) (λ told. told ≤ last_moment)
    by_test true is = tt
    by_test false is = ltb-false _ _ is

offset_moment-limit : (offset moment : ℕ) → IfSome (offset_moment offset moment) (λ told. told ≤ last_moment)
unfolding offset_moment
offset_moment-limit offset moment = by_tests (nat_lt offset sign_bit) (nat_lt moment ((round - offset) * second))
  where
    by_tests : (a b : Bool) → IfSome
        (if a then tellable (moment + offset * second) else if b then None else tellable (moment - (round - offset) * second))
        (λ told. told ≤ last_moment)
    by_tests true b = tellable-limit _
    by_tests false true = tt
    by_tests false false = tellable-limit _

moment-limit : (interface : Interface) (last : ℕ) (ticks : Option ℕ) → last ≤ last_moment → IfSome (moment_by interface last ticks) (λ told. told ≤ last_moment)
moment-limit interface last None limit = limit
moment-limit interface last (Some ticks) limit = offset_moment-limit interface.offset (ticks_in_nanoseconds interface.resolution ticks)

-- ---- packets

-- a record that is found keeps to the limits
abbrev pub IsFoundWithinLimits : Result (Option Record) BlockFault → Type 0
IsFoundWithinLimits (Err fault) = Unit {0}
IsFoundWithinLimits (Ok found) = IfSome found IsWithinLimits

record_at-limits : (moment : Option ℕ) (original : ℕ) (octets : List ℕ) → IfSome moment (λ told. told ≤ last_moment) → original < 2 ^ 32 → length octets ≤ longest
    → IsFoundWithinLimits (record_at moment original octets)
record_at-limits None original octets limit fits short = tt
record_at-limits (Some moment) original octets limit fits short = record { moment = limit; original = fits; length = short }

selected_record-limits : (interface : Interface) (last : ℕ) (head : PacketHead) (octets : List ℕ) → last ≤ last_moment → head.original < 2 ^ 32
    → IsFoundWithinLimits (selected_record interface last head octets)
unfolding selected_record
selected_record-limits interface last head octets limit fits =
    by_tests (not (interface.link == 1)) (nat_lt longest captured) (nat_lt (length octets) captured) refl refl
  where
    captured : ℕ
    captured = captured_length interface head

    by_tests : (a b c : Bool) → nat_lt longest captured ≡ b → nat_lt (length octets) captured ≡ c → IsFoundWithinLimits
        (if a then Err BadLink
        else if b then Err TooLarge
        else if c then Err ShortBlock
        else record_at (moment_by interface last head.ticks) head.original (take captured octets))
    by_tests true b c p q = tt
    by_tests false true c p q = tt
    by_tests false false true p q = tt
    by_tests false false false p q =
        let small : captured ≤ longest = ltb-false longest captured p in
        let room : captured ≤ length octets = ltb-false (length octets) captured q in
        record_at-limits (moment_by interface last head.ticks) head.original (take captured octets) (moment-limit interface last head.ticks limit) fits
        (omega (arith, small, length-take-le captured octets room))

packet_record-limits : (interfaces : List Interface) (last : ℕ) (head : PacketHead) (octets : List ℕ) → last ≤ last_moment → head.original < 2 ^ 32
    → IsFoundWithinLimits (packet_record interfaces last head octets)
packet_record-limits interfaces last head octets limit fits = by_interface (slice_get interfaces head.interface)
  where
    by_selected : (interface : Interface) (b : Bool) → IsFoundWithinLimits (if b then selected_record interface last head octets else Ok None)
    by_selected interface true = selected_record-limits interface last head octets limit fits
    by_selected interface false = tt

    by_interface : (found : Option Interface) → IsFoundWithinLimits (packet_by found last head octets)
    by_interface None = tt
    by_interface (Some interface) = by_selected interface interface.is_selected

-- what is meant keeps to the limits, if it is told
abbrev pub IsToldWithinLimits : Result BlockMeaning BlockFault → Type 0
IsToldWithinLimits (Err fault) = Unit {0}
IsToldWithinLimits (Ok meant) = IsMeantWithinLimits meant

packet_meaning-limits : (block : Block) (found : Result (Option Record) BlockFault) → IsFoundWithinLimits found → IsToldWithinLimits (packet_meaning block found)
packet_meaning-limits block (Err fault) limits = tt
packet_meaning-limits block (Ok None) limits = tt
packet_meaning-limits block (Ok (Some r)) limits = by_direction (is_outbound (length r.octets) block)
  where
    by_direction : (b : Bool) → IsMeantWithinLimits (record_meaning b r)
    by_direction true = tt
    by_direction false = limits

-- ---- blocks

enhanced_fits : (order : Order) (body : List ℕ) → IsText body → (enhanced_head order body).original < 2 ^ 32
unfolding enhanced_head
enhanced_fits order body h = number_of-fits order 4 (drop 16 body) (IsText-drop 16 body h)

obsolete_fits : (order : Order) (body : List ℕ) → IsText body → (obsolete_head order body).original < 2 ^ 32
unfolding obsolete_head
obsolete_fits order body h = number_of-fits order 4 (drop 16 body) (IsText-drop 16 body h)

simple_fits : (order : Order) (body : List ℕ) → IsText body → (simple_head order body).original < 2 ^ 32
unfolding simple_head
simple_fits order body h = number_of-fits order 4 body h

head_fits : (block : Block) → IsText block.body → (head_in block).original < 2 ^ 32
head_fits block h = by_kind (block.kind == simple_packet) (block.kind == obsolete_packet)
  where
    by_kind : (a b : Bool) → (if a then simple_head block.order block.body else if b then obsolete_head block.order block.body else enhanced_head block.order block.body).original < 2 ^ 32
    by_kind true b = simple_fits block.order block.body h
    by_kind false true = obsolete_fits block.order block.body h
    by_kind false false = enhanced_fits block.order block.body h

packet_in-limits : (interfaces : List Interface) (last : ℕ) (block : Block) → IsText block.body → last ≤ last_moment → IsToldWithinLimits (packet_in interfaces last block)
unfolding packet_in
packet_in-limits interfaces last block h limit = by_room (nat_lt (length block.body) (head_size block.kind))
  where
    by_room : (b : Bool) → IsToldWithinLimits (if b then Err ShortBlock else packet_meaning block (packet_record interfaces last (head_in block) (drop (head_size block.kind) block.body)))
    by_room true = tt
    by_room false = packet_meaning-limits block _ (packet_record-limits interfaces last (head_in block) (drop (head_size block.kind) block.body) limit (head_fits block h))

section_in-limits : (block : Block) → IsToldWithinLimits (section_in block)
unfolding section_in
section_in-limits block = by_tests (nat_lt (length block.body) 16) (number_of block.order 2 (drop 4 block.body) == 1)
  where
    by_tests : (a b : Bool) → IsToldWithinLimits (if a then Err ShortBlock else if b then Ok Section else Err BadVersion)
    by_tests true b = tt
    by_tests false true = tt
    by_tests false false = tt

interface_in-limits : (selection : Selection) (interfaces : List Interface) (block : Block) → IsToldWithinLimits (interface_in selection interfaces block)
unfolding interface_in
interface_in-limits selection interfaces block = by_test (nat_lt (length interfaces) 4096)
  where
    told : (found : Result Interface BlockFault) → IsToldWithinLimits (interface_meaning found)
    told (Err fault) = tt
    told (Ok interface) = tt

    by_test : (b : Bool) → IsToldWithinLimits (if b then interface_meaning (described selection (length interfaces) block.order block.body) else Err TooManyInterfaces)
    by_test true = told _
    by_test false = tt

meaning-limits : (selection : Selection) (interfaces : List Interface) (last : ℕ) (block : Block) → IsText block.body → last ≤ last_moment
    → IsToldWithinLimits (block_meaning selection interfaces last block)
unfolding block_meaning
meaning-limits selection interfaces last block h limit =
    by_kind (block.kind == section_header) (block.kind == interface_description) (is_of_packet block.kind)
  where
    by_kind : (a b c : Bool) → IsToldWithinLimits
        (if a then section_in block else if b then interface_in selection interfaces block else if c then packet_in interfaces last block else Ok Nothing)
    by_kind true b c = section_in-limits block
    by_kind false true c = interface_in-limits selection interfaces block
    by_kind false false true = packet_in-limits interfaces last block h limit
    by_kind false false false = tt

-- ---- texts

-- a step gives a record within the limits, and leaves a moment within them
abbrev IsStepSound : Result Step BlockFault → Type 0
IsStepSound (Err fault) = Unit {0}
IsStepSound (Ok step) = IfSome step.found IsWithinLimits × (step.context.last ≤ last_moment)

step_by-sound : (context : Context) (block : Block) (meant : Result BlockMeaning BlockFault) → context.last ≤ last_moment → IsToldWithinLimits meant
    → IsStepSound (step_by context block meant)
step_by-sound context block (Err fault) limit limits = tt
step_by-sound context block (Ok Section) limit limits = (tt, limit)
step_by-sound context block (Ok (Described interface)) limit limits = (tt, limit)
step_by-sound context block (Ok (Packet r)) limit limits = (limits, limits.moment)
step_by-sound context block (Ok Outbound) limit limits = (tt, limit)
step_by-sound context block (Ok Nothing) limit limits = (tt, limit)

step_of-sound : (selection : Selection) (context : Context) (block : Block) → IsText block.body → context.last ≤ last_moment → IsStepSound (step_of selection context block)
unfolding step_of
step_of-sound selection context block h limit =
    step_by-sound context block (block_meaning selection context.interfaces context.last block) limit (meaning-limits selection context.interfaces context.last block h limit)

-- the octets of a block and of what is behind it are octets
abbrev IsNextText : NextBlock → Type 0
IsNextText (AnotherBlock block rest) = IsText block.body × IsText rest
IsNextText (NoBlock end) = Unit {0}

next_block-text : (section : Option Order) (text : List ℕ) → IsText text → IsNextText (next_block section text)
unfolding next_block
next_block-text section text h = by_head (nat_lt (length text) 12)
  where
    by_tests : (order : Order) (size : ℕ) (a b c d : Bool) → IsNextText
        (if a then NoBlock (Refused BadLength)
        else if b then NoBlock (Refused TooLarge)
        else if c then NoBlock CutShort
        else if d then AnotherBlock (block_at order size text) (drop size text)
        else NoBlock (Refused BadLength))
    by_tests order size true b c d = tt
    by_tests order size false true c d = tt
    by_tests order size false false true d = tt
    by_tests order size false false false false = tt
    by_tests order size false false false true = (IsText-take (size - 12) (drop 8 text) (IsText-drop 8 text h), IsText-drop size text h)

    by_order : (found : Option Order) → IsNextText (block_by_order found text)
    by_order None = tt
    by_order (Some order) =
        let size = number_of order 4 (drop 4 text) in
        by_tests order size (is_no_length size) (is_read (number_of order 4 text) && nat_lt longest_block size) (nat_lt (length text) size) (number_of order 4 (drop (size - 4) text) == size)

    by_head : (b : Bool) → IsNextText (if b then NoBlock (end_by_size section (length text)) else block_by_order (order_at section text) text)
    by_head true = tt
    by_head false = by_order (order_at section text)

found-limits : (found : Option Record) (reading : PacketReading) → IfSome found IsWithinLimits → AllByRecursion IsWithinLimits reading.records
    → AllByRecursion IsWithinLimits (found_before found reading).records
found-limits None reading here more = more
found-limits (Some r) reading here more = (here, more)

first_packets-limits : (n : ℕ) (selection : Selection) (context : Context) (text : List ℕ) → IsText text → context.last ≤ last_moment
    → AllByRecursion IsWithinLimits (first_packets n selection context text).records
unfolding first_packets
first_packets-limits zero selection context text h limit = tt
first_packets-limits (suc n) selection context text h limit =
    by_next (λ context rest h limit. first_packets-limits n selection context rest h limit) (next_block context.order text) (next_block-text context.order text h)
  where
    by_step : ((context : Context) (rest : List ℕ) → IsText rest → context.last ≤ last_moment → AllByRecursion IsWithinLimits (first_packets n selection context rest).records)
        → (rest : List ℕ) → IsText rest → (step : Result Step BlockFault) → IsStepSound step
        → AllByRecursion IsWithinLimits (reading_by_step (first_packets n selection) context rest step).records
    by_step more rest h (Err fault) sound = tt
    by_step more rest h (Ok step) sound = found-limits step.found (first_packets n selection step.context rest) sound.0 (more step.context rest h sound.1)

    by_next : ((context : Context) (rest : List ℕ) → IsText rest → context.last ≤ last_moment → AllByRecursion IsWithinLimits (first_packets n selection context rest).records)
        → (next : NextBlock) → IsNextText next → AllByRecursion IsWithinLimits (reading_by_block (first_packets n selection) selection context next).records
    by_next more (AnotherBlock block rest) texts = by_step more rest texts.1 (step_of selection context block) (step_of-sound selection context block texts.0 limit)
    by_next more (NoBlock end) texts = tt

pub packets-limits : (selection : Selection) (text : List ℕ) → IsText text → AllByRecursion IsWithinLimits (packets_of selection text).records
unfolding packets_in
packets-limits selection text h = first_packets-limits (suc (length text)) selection start text h (omega arith)
