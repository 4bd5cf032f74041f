-- A block that is passed over.
use Rattle.std.proofs.Common.{◌≡◌, ◌∙◌, refl, sym, ap, ℕ, ◌+◌, ◌-◌, ◌<◌, ◌≤◌, Bool, true, false, List, ◌++◌, length, drop, arith, length-append, length-drop, length-take, take, None, Result, Ok}
use Rattle.std.specs.Prelude.{◌==◌, ◌&&◌, ◌||◌, nat_lt, if◌then◌else◌}
use Rattle.std.proofs.lemmas.Bool.{le-ltb, lt-ltb, ltb-false, ltb-true}
use Rattle.std.proofs.lemmas.List.{drop-drop}
use Rattle.pcap.specs.Style.{number_of}
use Rattle.pcap.specs.declared.text.style.Order.{Order}
use Rattle.pcapng_input.proofs.Grown.{IsCutBlock, by_checked, by_order_of, checked, four_front, number_of-front, order_at-front, twelve}
use Rattle.pcapng_input.proofs.Readings.{packets-next}
use Rattle.pcapng_input.specs.Adapted.{behind_other, packets_closing}
use Rattle.pcapng_input.specs.Block.{Block, block_at, block_by_length, block_by_order, interface_description, is_of_packet, is_read, longest_block, next_block, section_header}
use Rattle.pcapng_input.specs.Meaning.{block_meaning, interface_in, packet_in, section_in}
use Rattle.pcapng_input.specs.Reading.{Context, EndsCut, EndsFaulty, PacketReading, Step, block_fault_at, ended, packets_in, reading_by_block, reading_by_step, step_by, step_of}
use Rattle.pcapng_input.specs.declared.fault.BlockFault.{BlockFault}
use Rattle.pcapng_input.specs.declared.fault.BlockFault.TheVariants.{BadLength}
use Rattle.pcapng_input.specs.declared.interface.Interface.{Interface}
use Rattle.pcapng_input.specs.declared.interface.Selection.{Selection}
use Rattle.pcapng_input.specs.declared.meaning.BlockMeaning.{BlockMeaning}
use Rattle.pcapng_input.specs.declared.meaning.BlockMeaning.TheVariants.{Nothing}

pub and_no : (a b : Bool) → (a && b) ≡ false → b ≡ true → a ≡ false
and_no true true is t = absurd cc
and_no true false is t = absurd cc
and_no false b is t = refl

by_kinds : (s i p n : Result BlockMeaning BlockFault) (a b c : Bool) → (a || b || c) ≡ false → (if a then s else if b then i else if c then p else n) ≡ n
by_kinds s i p n true b c is = absurd cc
by_kinds s i p n false true c is = absurd cc
by_kinds s i p n false false true is = absurd cc
by_kinds s i p n false false false is = refl

pub other_meaning : (selection : Selection) (interfaces : List Interface) (last : ℕ) (block : Block) → is_read block.kind ≡ false
    → block_meaning selection interfaces last block ≡ Ok Nothing
unfolding block_meaning
other_meaning selection interfaces last block is =
    by_kinds (section_in block) (interface_in selection interfaces block) (packet_in interfaces last block) (Ok Nothing)
    (block.kind == section_header) (block.kind == interface_description) (is_of_packet block.kind) is

abbrev other_step : Context → ℕ → Result Step BlockFault
other_step context size = Ok (record { context = behind_other context size; found = None })

step_other : (selection : Selection) (context : Context) (block : Block) (size : ℕ) → is_read block.kind ≡ false → 12 + length block.body ≡ size
    → step_of selection context block ≡ other_step context size
unfolding step_of
step_other selection context block size other is =
    ap (step_by context block) (other_meaning selection context.interfaces context.last block other) ∙ ap (other_step context) is

-- the packets behind a block that is passed over, by whether its second length is there, and the same
abbrev closing : Selection → Context → ℕ → List ℕ → Bool → Bool → PacketReading
closing selection context size text short same =
    if short then ended context EndsCut
    else if same then packets_in selection (behind_other context size) (drop 4 text)
    else ended context (EndsFaulty (block_fault_at context BadLength))

-- a block with more octets than there is room for is passed over
pub passes : (selection : Selection) (context : Context) (held rest : List ℕ) (order : Order) → 12 ≤ length held → IsCutBlock context.order held order
    → longest_block < number_of order 4 (drop 4 held)
    → packets_in selection context (held ++ rest)
    ≡ packets_closing selection context order (number_of order 4 (drop 4 held)) (drop (number_of order 4 (drop 4 held) - 4) (held ++ rest))
passes selection context held rest o long is more =
    packets-next selection context text ∙ ap (reading_by_block (packets_in selection) selection context) next ∙ by_tests short same refl refl
  where
    size : ℕ
    size = number_of o 4 (drop 4 held)

    text : List ℕ
    text = held ++ rest

    tail : List ℕ
    tail = drop (size - 4) text

    short : Bool
    short = nat_lt (length text) size

    same : Bool
    same = number_of o 4 tail == size

    next : next_block context.order text ≡ block_by_length o size text
    next =
        by_order_of context.order text (omega (arith, length-append held rest))
        ∙ ap (λ x. block_by_order x text) (order_at-front context.order held rest long ∙ is.told)
        ∙ ap (λ n. block_by_length o n text) (number_of-front o 4 4 held rest (omega arith))

    small : 12 ≤ size
    small = twelve size is.fine

    not_read : is_read (number_of o 4 text) ≡ false
    not_read = ap is_read (four_front o held rest (omega arith)) ∙ and_no _ _ is.roomy (lt-ltb longest_block size more)

    roomy : (is_read (number_of o 4 text) && nat_lt longest_block size) ≡ false
    roomy = ap (λ b. b && nat_lt longest_block size) not_read

    by_length : (c d : Bool) → short ≡ c → same ≡ d → block_by_length o size text ≡ checked o size text false false c d
    by_length c d p q = by_checked o size text false false c d is.fine roomy p q

    by_tests : (c d : Bool) → short ≡ c → same ≡ d
        → reading_by_block (packets_in selection) selection context (block_by_length o size text) ≡ packets_closing selection context o size tail
    by_tests true d p q =
        let none : nat_lt (length tail) 4 ≡ true = lt-ltb (length tail) 4 (omega (arith, length-drop (size - 4) text, ltb-true (length text) size p, small)) in
        ap (reading_by_block (packets_in selection) selection context) (by_length true d p q)
        ∙ sym (ap (λ b. closing selection context size tail b (number_of o 4 tail == size)) none)
    by_tests false true p q =
        let whole : nat_lt (length tail) 4 ≡ false = le-ltb (length tail) 4 (omega (arith, length-drop (size - 4) text, ltb-false (length text) size p, small)) in
        let body : 12 + length (take (size - 12) (drop 8 text)) ≡ size =
        omega (arith, length-take (size - 12) (drop 8 text), length-drop 8 text, ltb-false (length text) size p, small) in
        let behind : drop 4 tail ≡ drop size text = drop-drop 4 (size - 4) text ∙ ap (λ n. drop n text) (let e : size - 4 + 4 ≡ size = omega (arith, small) in e) in
        ap (reading_by_block (packets_in selection) selection context) (by_length false true p q)
        ∙ ap (reading_by_step (packets_in selection) context (drop size text)) (step_other selection context (block_at o size text) size not_read body)
        ∙ ap (packets_in selection (behind_other context size)) (sym behind)
        ∙ sym (ap (λ b. closing selection context size tail b (number_of o 4 tail == size)) whole ∙ ap (closing selection context size tail false) q)
    by_tests false false p q =
        let whole : nat_lt (length tail) 4 ≡ false = le-ltb (length tail) 4 (omega (arith, length-drop (size - 4) text, ltb-false (length text) size p, small)) in
        ap (reading_by_block (packets_in selection) selection context) (by_length false false p q)
        ∙ sym (ap (λ b. closing selection context size tail b (number_of o 4 tail == size)) whole ∙ ap (closing selection context size tail false) q)
