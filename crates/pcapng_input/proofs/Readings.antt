-- The packets of a text, by what comes next in it.
use Rattle.std.proofs.Common.{◌≡◌, ◌∙◌, refl, sym, ap, subst, ℕ, ◌+◌, ◌-◌, ◌≤◌, Bool, true, false, List, length, take, drop, arith, length-drop, length-take, Option, None, Some, Result, Ok, Err}
use Rattle.std.specs.Prelude.{◌==◌, ◌&&◌, nat_lt, if◌then◌else◌}
use Rattle.std.proofs.lemmas.Bool.{ltb-false, or_parts}
use Rattle.pcap.proofs.Bounded.{one_step}
use Rattle.pcap.specs.Style.{number_of}
use Rattle.pcap.specs.declared.text.style.Order.{Order}
use Rattle.pcapng_input.specs.Block.{AnotherBlock, Block, BlockEnd, CutShort, NextBlock, NoBlock, Refused, block_at, block_by_order, end_by_size, is_no_length, is_read, longest_block, next_block, order_at}
use Rattle.pcapng_input.specs.Reading.{Context, EndsFaulty, PacketReading, Step, end_at, ended, block_fault_at, first_packets, found_before, packets_in, reading_by_block, reading_by_step, step_of}
use Rattle.pcapng_input.specs.declared.fault.BlockFault.{BlockFault}
use Rattle.pcapng_input.specs.declared.fault.BlockFault.TheVariants.{BadLength, TooLarge}
use Rattle.pcapng_input.specs.declared.interface.Selection.{Selection}

-- a block takes up the front of a text, and what is behind it is the rest
abbrev IsBehindBlock : List ℕ → NextBlock → Type 0
IsBehindBlock text (AnotherBlock block rest) = (12 + length block.body ≤ length text) × (drop (12 + length block.body) text ≡ rest)
IsBehindBlock text (NoBlock end) = Unit {0}

by_tests : (order : Order) (size : ℕ) (text : List ℕ) (a b c d : Bool) → is_no_length size ≡ a → nat_lt (length text) size ≡ c
    → IsBehindBlock text
    (if a then NoBlock (Refused BadLength)
    else if b then NoBlock (Refused TooLarge)
    else if c then NoBlock CutShort
    else if d then AnotherBlock (block_at order size text) (drop size text)
    else NoBlock (Refused BadLength))
by_tests order size text true b c d p q = tt
by_tests order size text false true c d p q = tt
by_tests order size text false false true d p q = tt
by_tests order size text false false false false p q = tt
by_tests order size text false false false true p q =
    let long = ltb-false size 12 (or_parts _ _ p).0 in
    let room = ltb-false (length text) size q in
    let body : 12 + length (take (size - 12) (drop 8 text)) ≡ size = omega (arith, length-take (size - 12) (drop 8 text), length-drop 8 text, long, room) in
    (omega (arith, body, room), ap (λ n. drop n text) body)

by_order : (order : Option Order) (text : List ℕ) → IsBehindBlock text (block_by_order order text)
by_order None text = tt
by_order (Some order) text =
    let size = number_of order 4 (drop 4 text) in
    by_tests order size text (is_no_length size) (is_read (number_of order 4 text) && nat_lt longest_block size) (nat_lt (length text) size)
    (number_of order 4 (drop (size - 4) text) == size) refl refl

next_block-behind : (section : Option Order) (text : List ℕ) → IsBehindBlock text (next_block section text)
unfolding next_block
next_block-behind section text = by_head (nat_lt (length text) 12)
  where
    by_head : (b : Bool) → IsBehindBlock text (if b then NoBlock (end_by_size section (length text)) else block_by_order (order_at section text) text)
    by_head true = tt
    by_head false = by_order (order_at section text) text

pub behind_block : (section : Option Order) (text : List ℕ) (block : Block) (rest : List ℕ) → AnotherBlock block rest ≡ next_block section text
    → drop (12 + length block.body) text ≡ rest
behind_block section text block rest is =
    let behind : IsBehindBlock text (AnotherBlock block rest) = subst (IsBehindBlock text) (sym is) (next_block-behind section text) in
    behind.1

-- so it is shorter by 12 octets at least
leaves_less : (text : List ℕ) (block : Block) (rest : List ℕ) → IsBehindBlock text (AnotherBlock block rest) → 12 + length rest ≤ length text
leaves_less text block rest behind =
    subst (λ r. 12 + length r ≤ length text) behind.1 (omega (arith, behind.0, length-drop (12 + length block.body) text))

same_step : (f g : Context → List ℕ → PacketReading) (context : Context) (rest : List ℕ) (step : Result Step BlockFault)
    → ((context : Context) → f context rest ≡ g context rest) → reading_by_step f context rest step ≡ reading_by_step g context rest step
same_step f g context rest (Err fault) same = refl
same_step f g context rest (Ok step) same = ap (found_before step.found) (same step.context)

same_reading : (f g : Context → List ℕ → PacketReading) (selection : Selection) (context : Context) (next : NextBlock) (text : List ℕ) → IsBehindBlock text next
    → ((context : Context) (rest : List ℕ) → 12 + length rest ≤ length text → f context rest ≡ g context rest)
    → reading_by_block f selection context next ≡ reading_by_block g selection context next
same_reading f g selection context (AnotherBlock block rest) text behind same =
    same_step f g context rest (step_of selection context block) (λ context. same context rest (leaves_less text block rest behind))
same_reading f g selection context (NoBlock end) text behind same = refl

-- the packets of a text are those of the next block and of the text behind it
pub packets-next : (selection : Selection) (context : Context) (text : List ℕ)
    → packets_in selection context text ≡ reading_by_block (packets_in selection) selection context (next_block context.order text)
unfolding packets_in first_packets
packets-next selection context text =
    one_step {S = Context × List ℕ} (λ s. length s.1) (λ n s. first_packets n selection s.0 s.1)
    (λ more s. reading_by_block (λ context rest. more (context, rest)) selection s.0 (next_block s.0.order s.1)) (λ n s. refl)
    (λ f g s same.
    same_reading (λ context rest. f (context, rest)) (λ context rest. g (context, rest)) selection s.0 (next_block s.0.order s.1) s.1
    (next_block-behind s.0.order s.1) (λ context rest less. same (context, rest) (omega (arith, less)))) (context, text)

-- no further block
pub packets-end : (selection : Selection) (context : Context) (text : List ℕ) (end : BlockEnd) → NoBlock end ≡ next_block context.order text
    → packets_in selection context text ≡ ended context (end_at context end)
packets-end selection context text end is =
    packets-next selection context text ∙ ap (reading_by_block (packets_in selection) selection context) (sym is)

-- a block and its step
pub packets-behind : (selection : Selection) (context : Context) (text : List ℕ) (block : Block) (rest : List ℕ) (step : Step)
    → AnotherBlock block rest ≡ next_block context.order text → step_of selection context block ≡ Ok step
    → packets_in selection context text ≡ found_before step.found (packets_in selection step.context rest)
packets-behind selection context text block rest step is done =
    packets-next selection context text ∙ ap (reading_by_block (packets_in selection) selection context) (sym is)
    ∙ ap (reading_by_step (packets_in selection) context rest) done

-- a block with a fault
pub packets-faulty : (selection : Selection) (context : Context) (text : List ℕ) (block : Block) (rest : List ℕ) (fault : BlockFault)
    → AnotherBlock block rest ≡ next_block context.order text → step_of selection context block ≡ Err fault
    → packets_in selection context text ≡ ended context (EndsFaulty (block_fault_at context fault))
packets-faulty selection context text block rest fault is done =
    packets-next selection context text ∙ ap (reading_by_block (packets_in selection) selection context) (sym is)
    ∙ ap (reading_by_step (packets_in selection) context rest) done
