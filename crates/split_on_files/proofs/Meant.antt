-- What a block means where one interface is asked for, by what it means where all are.
use Rattle.std.proofs.Common.{◌≡◌, ◌∙◌, refl, sym, ap, subst, ℕ, zero, suc, ◌<◌, ◌≤◌, Bool, true, false, List, [], ◌∷◌, length, drop, arith, Option, None, Some, Result, Ok, Err}
use Rattle.std.specs.Prelude.{◌==◌, if◌then◌else◌, not, nat_lt, option_map, slice_get}
use Rattle.std.proofs.lemmas.Bool.{eqb-true, ltb-true}
use Rattle.pcapng_input.specs.Block.{Block, interface_description, is_of_packet, section_header}
use Rattle.pcapng_input.specs.Interface.{described}
use Rattle.pcapng_input.specs.Meaning.{block_meaning, head_in, head_size, interface_in, interface_meaning, interface_named, is_outbound, most_interfaces, packet_in, packet_meaning, record_meaning, section_in}
use Rattle.pcapng_input.specs.Packet.{packet_by, packet_record}
use Rattle.pcap.specs.Record.{Record}
use Rattle.pcap.specs.Style.{number_of}
use Rattle.pcapng_input.specs.declared.fault.BlockFault.{BlockFault}
use Rattle.pcapng_input.specs.declared.fault.BlockFault.TheVariants.{BadVersion, ShortBlock, TooManyInterfaces}
use Rattle.pcapng_input.specs.declared.interface.Interface.{Interface}
use Rattle.pcapng_input.specs.declared.interface.Selection.{Selection}
use Rattle.pcapng_input.specs.declared.interface.Selection.TheVariants.{All, Number}
use Rattle.pcapng_input.specs.declared.meaning.BlockMeaning.{BlockMeaning}
use Rattle.pcapng_input.specs.declared.meaning.BlockMeaning.TheVariants.{Described, Nothing, Outbound, Packet, Section}
use Rattle.split_on_files.proofs.Chosen.{described-as, described-taken, described_as, first-get, only-length, own-get}
use Rattle.split_on_files.specs.Lanes.{as_selected, only}
use Rattle.split_on_files.specs.Meanings.{IsDescribedIn, IsOfPacket, IsPlain}
use Rattle.split_on_files.specs.Steps.{AllTaken, IsOf, IsOfNone, Lanes}

-- ---- a block that holds no packet of an interface that was described

-- what it means where one interface is asked for
abbrev pub renamed : ℕ → List Interface → Result BlockMeaning BlockFault → Result BlockMeaning BlockFault
renamed number is (Err fault) = Err fault
renamed number is (Ok Section) = Ok Section
renamed number is (Ok (Described i)) = Ok (Described (as_selected (number == length is) i))
renamed number is (Ok (Packet r)) = Ok (Packet r)
renamed number is (Ok Outbound) = Ok Outbound
renamed number is (Ok Nothing) = Ok Nothing

section-renamed : (number : ℕ) (is : List Interface) (block : Block) → section_in block ≡ renamed number is (section_in block)
unfolding section_in
section-renamed number is block = by_tests (nat_lt (length block.body) 16) (number_of block.order 2 (drop 4 block.body) == 1)
  where
    by_tests : (a b : Bool) → (if a then Err ShortBlock else if b then Ok Section else Err BadVersion)
        ≡ renamed number is (if a then Err ShortBlock else if b then Ok Section else Err BadVersion)
    by_tests true b = refl
    by_tests false true = refl
    by_tests false false = refl

interface-renamed : (number : ℕ) (is : List Interface) (block : Block)
    → interface_in (Number number) (only number 0 is) block ≡ renamed number is (interface_in All is block)
unfolding interface_in
interface-renamed number is block =
    ap (λ m. if nat_lt m most_interfaces then interface_meaning (described (Number number) m block.order block.body) else Err TooManyInterfaces) (only-length number 0 is)
    ∙ by_room (nat_lt (length is) most_interfaces)
  where
    by_described : (r : Result Interface BlockFault) → interface_meaning (described_as (number == length is) r) ≡ renamed number is (interface_meaning r)
    by_described (Err fault) = refl
    by_described (Ok i) = refl

    by_room : (b : Bool) → (if b then interface_meaning (described (Number number) (length is) block.order block.body) else Err TooManyInterfaces)
        ≡ renamed number is (if b then interface_meaning (described All (length is) block.order block.body) else Err TooManyInterfaces)
    by_room true = ap interface_meaning (described-as number (length is) block.order block.body) ∙ by_described (described All (length is) block.order block.body)
    by_room false = refl

packet-renamed : (number : ℕ) (is : List Interface) (last : ℕ) (block : Block) → is_of_packet block.kind ≡ true → IsOfNone is (interface_named block)
    → packet_in (only number 0 is) last block ≡ renamed number is (packet_in is 0 block)
unfolding packet_in interface_named
packet-renamed number is last block packet none = by_size (nat_lt (length block.body) (head_size block.kind)) refl
  where
    at : ℕ
    at = (head_in block).interface

    octets : List ℕ
    octets = drop (head_size block.kind) block.body

    by_size : (b : Bool) → nat_lt (length block.body) (head_size block.kind) ≡ b
        → (if b then Err ShortBlock else packet_meaning block (packet_record (only number 0 is) last (head_in block) octets))
        ≡ renamed number is (if b then Err ShortBlock else packet_meaning block (packet_record is 0 (head_in block) octets))
    by_size true e = refl
    by_size false e =
        let named : interface_named block ≡ Some at =
        ap (λ b. if not b then None else if nat_lt (length block.body) (head_size block.kind) then None else Some at) packet ∙ ap (λ b. if b then None else Some at) e in
        let unknown : slice_get is at ≡ None = subst (IsOfNone is) named none in
        let hidden : slice_get (only number 0 is) at ≡ None = first-get number at is ∙ ap (option_map (as_selected (number == at))) unknown in
        ap (λ o. packet_meaning block (packet_by o last (head_in block) octets)) hidden
        ∙ sym (ap (λ o. renamed number is (packet_meaning block (packet_by o 0 (head_in block) octets))) unknown)

pub others : (number : ℕ) (is : List Interface) (last : ℕ) (block : Block) → IsOfNone is (interface_named block)
    → block_meaning (Number number) (only number 0 is) last block ≡ renamed number is (block_meaning All is 0 block)
unfolding block_meaning
others number is last block none = by_kinds (block.kind == section_header) (block.kind == interface_description) (is_of_packet block.kind) refl
  where
    by_kinds : (a b c : Bool) → is_of_packet block.kind ≡ c
        → (if a then section_in block else if b then interface_in (Number number) (only number 0 is) block else if c then packet_in (only number 0 is) last block else Ok Nothing)
        ≡ renamed number is (if a then section_in block else if b then interface_in All is block else if c then packet_in is 0 block else Ok Nothing)
    by_kinds true b c e = section-renamed number is block
    by_kinds false true c e = interface-renamed number is block
    by_kinds false false true e = packet-renamed number is last block e none
    by_kinds false false false e = refl

-- ---- one that does

-- a block that names an interface holds a packet
pub record IsNaming (block : Block) (at : ℕ) : Type 0 where
  pub packet : is_of_packet block.kind ≡ true
  pub long : nat_lt (length block.body) (head_size block.kind) ≡ false
  pub names : (head_in block).interface ≡ at

number_in : ℕ → Option ℕ → ℕ
number_in n None = n
number_in n (Some m) = m

pub naming : (block : Block) (at : ℕ) → interface_named block ≡ Some at → IsNaming block at
unfolding interface_named number_in
naming block at = by_tests (is_of_packet block.kind) (nat_lt (length block.body) (head_size block.kind)) refl refl
  where
    by_tests : (a b : Bool) → is_of_packet block.kind ≡ a → nat_lt (length block.body) (head_size block.kind) ≡ b
        → (if not a then None else if b then None else Some (head_in block).interface) ≡ Some at → IsNaming block at
    by_tests false b p q e = absurd cc
    by_tests true true p q e = absurd cc
    by_tests true false p q e = record { packet = p; long = q; names = ap (number_in 0) e }

other_kind : (kind other : ℕ) → is_of_packet kind ≡ true → is_of_packet other ≡ false → (kind == other) ≡ true → ⊥
other_kind kind other packet none same =
    let e : true ≡ false = sym packet ∙ ap is_of_packet (eqb-true kind other same) ∙ none in
    cc

by_packet : (selection : Selection) (is : List Interface) (last : ℕ) (block : Block) → is_of_packet block.kind ≡ true
    → block_meaning selection is last block ≡ packet_in is last block
unfolding block_meaning
by_packet selection is last block packet = by_kinds (block.kind == section_header) (block.kind == interface_description) (is_of_packet block.kind) refl refl packet
  where
    by_kinds : (a b c : Bool) → (block.kind == section_header) ≡ a → (block.kind == interface_description) ≡ b → c ≡ true
        → (if a then section_in block else if b then interface_in selection is block else if c then packet_in is last block else Ok Nothing) ≡ packet_in is last block
    by_kinds true b c p q e = absurd (other_kind block.kind section_header packet refl p)
    by_kinds false true c p q e = absurd (other_kind block.kind interface_description packet refl q)
    by_kinds false false true p q e = refl
    by_kinds false false false p q e = absurd cc

by_interface : (is : List Interface) (last : ℕ) (block : Block) (at : ℕ) → IsNaming block at
    → packet_in is last block ≡ packet_meaning block (packet_by (slice_get is at) last (head_in block) (drop (head_size block.kind) block.body))
unfolding packet_in
by_interface is last block at naming =
    ap (λ b. if b then Err ShortBlock else packet_meaning block (packet_record is last (head_in block) (drop (head_size block.kind) block.body))) naming.long
    ∙ ap (λ n. packet_meaning block (packet_by (slice_get is n) last (head_in block) (drop (head_size block.kind) block.body))) naming.names

-- for the interface whose packet it is, it means what it means where all are asked for
pub own : (number : ℕ) (is : List Interface) (last : ℕ) (block : Block) (at : ℕ) → AllTaken is → interface_named block ≡ Some at → (number == at) ≡ true
    → block_meaning (Number number) (only number 0 is) last block ≡ block_meaning All is last block
own number is last block at all named same =
    let is_naming = naming block at named in
    by_packet (Number number) (only number 0 is) last block is_naming.packet ∙ by_interface (only number 0 is) last block at is_naming
    ∙ ap (λ o. packet_meaning block (packet_by o last (head_in block) (drop (head_size block.kind) block.body))) (own-get number at is all same)
    ∙ sym (by_packet All is last block is_naming.packet ∙ by_interface is last block at is_naming)

-- for any other it means nothing
pub another : (number : ℕ) (is : List Interface) (last : ℕ) (block : Block) (at : ℕ) (i : Interface) → interface_named block ≡ Some at → slice_get is at ≡ Some i
    → (number == at) ≡ false → block_meaning (Number number) (only number 0 is) last block ≡ Ok Nothing
another number is last block at i named described differ =
    let is_naming = naming block at named in
    by_packet (Number number) (only number 0 is) last block is_naming.packet ∙ by_interface (only number 0 is) last block at is_naming
    ∙ ap (λ o. packet_meaning block (packet_by o last (head_in block) (drop (head_size block.kind) block.body)))
    (first-get number at is ∙ ap (option_map (as_selected (number == at))) described ∙ ap (λ b. Some (as_selected b i)) differ)

-- ---- what a block can mean where all interfaces are asked for

by_section : (P : Result BlockMeaning BlockFault → Type 0) (block : Block) → P (Err ShortBlock) → P (Err BadVersion) → P (Ok Section) → P (section_in block)
unfolding section_in
by_section P block short version begins = by_bools (nat_lt (length block.body) 16) (number_of block.order 2 (drop 4 block.body) == 1)
  where
    by_bools : (a b : Bool) → P (if a then Err ShortBlock else if b then Ok Section else Err BadVersion)
    by_bools true b = short
    by_bools false true = begins
    by_bools false false = version

by_record : (P : Result BlockMeaning BlockFault → Type 0) (block : Block) (found : Result (Option Record) BlockFault) → ((f : BlockFault) → P (Err f)) → P (Ok Nothing)
    → P (Ok Outbound) → ((r : Record) → P (Ok (Packet r))) → P (packet_meaning block found)
by_record P block (Err fault) err nothing outbound packet = err fault
by_record P block (Ok None) err nothing outbound packet = nothing
by_record P block (Ok (Some r)) err nothing outbound packet = by_direction (is_outbound (length r.octets) block)
  where
    by_direction : (b : Bool) → P (Ok (record_meaning b r))
    by_direction true = outbound
    by_direction false = packet r

is_described : (is : List Interface) (block : Block) → IsDescribedIn is (interface_in All is block)
unfolding interface_in
is_described is block = by_room (nat_lt (length is) most_interfaces) refl
  where
    by_found : (r : Result Interface BlockFault) → described All (length is) block.order block.body ≡ r → length is < most_interfaces → IsDescribedIn is (interface_meaning r)
    by_found (Err fault) e room = tt
    by_found (Ok i) e room = (room, described-taken (length is) block.order block.body i e)

    by_room : (b : Bool) → nat_lt (length is) most_interfaces ≡ b
        → IsDescribedIn is (if b then interface_meaning (described All (length is) block.order block.body) else Err TooManyInterfaces)
    by_room true e = by_found (described All (length is) block.order block.body) refl (ltb-true (length is) most_interfaces e)
    by_room false e = tt

is_packet_free : (is : List Interface) (block : Block) → IsPlain (interface_in All is block)
unfolding interface_in
is_packet_free is block = by_room (nat_lt (length is) most_interfaces)
  where
    by_found : (r : Result Interface BlockFault) → IsPlain (interface_meaning r)
    by_found (Err fault) = tt
    by_found (Ok i) = tt

    by_room : (b : Bool) → IsPlain (if b then interface_meaning (described All (length is) block.order block.body) else Err TooManyInterfaces)
    by_room true = by_found (described All (length is) block.order block.body)
    by_room false = tt

pub describes : (is : List Interface) (last : ℕ) (block : Block) → IsDescribedIn is (block_meaning All is last block)
unfolding block_meaning packet_in
describes is last block = by_kinds (block.kind == section_header) (block.kind == interface_description) (is_of_packet block.kind)
  where
    by_size : (b : Bool) → IsDescribedIn is (if b then Err ShortBlock else packet_meaning block (packet_record is last (head_in block) (drop (head_size block.kind) block.body)))
    by_size true = tt
    by_size false =
        by_record (IsDescribedIn is) block (packet_record is last (head_in block) (drop (head_size block.kind) block.body)) (λ f. tt) tt tt (λ r. tt)

    by_kinds : (a b c : Bool) → IsDescribedIn is (if a then section_in block else if b then interface_in All is block else if c then packet_in is last block else Ok Nothing)
    by_kinds true b c = by_section (IsDescribedIn is) block tt tt tt
    by_kinds false true c = is_described is block
    by_kinds false false true = by_size (nat_lt (length block.body) (head_size block.kind))
    by_kinds false false false = tt

pub named_packet : (is : List Interface) (last : ℕ) (block : Block) (at : ℕ) → interface_named block ≡ Some at → IsOfPacket (block_meaning All is last block)
named_packet is last block at named =
    let is_naming = naming block at named in
    subst IsOfPacket (sym (by_packet All is last block is_naming.packet ∙ by_interface is last block at is_naming))
    (by_record IsOfPacket block (packet_by (slice_get is at) last (head_in block) (drop (head_size block.kind) block.body)) (λ f. tt) tt tt (λ r. tt))

pub unnamed_plain : (is : List Interface) (last : ℕ) (block : Block) → IsOfNone is (interface_named block) → IsPlain (block_meaning All is last block)
unfolding block_meaning packet_in interface_named
unnamed_plain is last block none = by_kinds (block.kind == section_header) (block.kind == interface_description) (is_of_packet block.kind) refl
  where
    at : ℕ
    at = (head_in block).interface

    octets : List ℕ
    octets = drop (head_size block.kind) block.body

    by_size : (b : Bool) → nat_lt (length block.body) (head_size block.kind) ≡ b → is_of_packet block.kind ≡ true
        → IsPlain (if b then Err ShortBlock else packet_meaning block (packet_record is last (head_in block) octets))
    by_size true e packet = tt
    by_size false e packet =
        let named : interface_named block ≡ Some at =
        ap (λ b. if not b then None else if nat_lt (length block.body) (head_size block.kind) then None else Some at) packet ∙ ap (λ b. if b then None else Some at) e in
        let unknown : slice_get is at ≡ None = subst (IsOfNone is) named none in
        subst (λ o. IsPlain (packet_meaning block (packet_by o last (head_in block) octets))) (sym unknown) tt

    by_kinds : (a b c : Bool) → is_of_packet block.kind ≡ c
        → IsPlain (if a then section_in block else if b then interface_in All is block else if c then packet_in is last block else Ok Nothing)
    by_kinds true b c e = by_section IsPlain block tt tt tt
    by_kinds false true c e = is_packet_free is block
    by_kinds false false true e = by_size (nat_lt (length block.body) (head_size block.kind)) refl e
    by_kinds false false false e = tt

-- the same of an answer
pub packet_meant : (l : Lanes) (last : ℕ) (block : Block) (at : ℕ) (result : Result BlockMeaning BlockFault) → IsOf l block at
    → result ≡ block_meaning All l.section.interfaces last block → IsOfPacket result
packet_meant l last block at result is is_meant = subst IsOfPacket (sym is_meant) (named_packet l.section.interfaces last block at is.named)

pub other_meant : (is : List Interface) (block : Block) (result : Result BlockMeaning BlockFault) → IsOfNone is (interface_named block)
    → result ≡ block_meaning All is 0 block → IsPlain result
other_meant is block result none is_meant = subst IsPlain (sym is_meant) (unnamed_plain is 0 block none)

pub described_meant : (is : List Interface) (block : Block) (result : Result BlockMeaning BlockFault) → result ≡ block_meaning All is 0 block → IsDescribedIn is result
described_meant is block result is_meant = subst (IsDescribedIn is) (sym is_meant) (describes is 0 block)

-- ---- whose packet it is

pub of_none : (is : List Interface) (o : Option ℕ) → o ≡ None → IsOfNone is o
of_none is None e = tt
of_none is (Some number) e = cc

pub of_unknown : (is : List Interface) (o : Option ℕ) (number : ℕ) → o ≡ Some number → length is ≤ number → IsOfNone is o
of_unknown is o number e fits = subst (IsOfNone is) (sym e) (beyond is number fits)
  where
    beyond : (is : List Interface) (number : ℕ) → length is ≤ number → slice_get is number ≡ None
    beyond [] number fits = refl
    beyond (i ∷ more) zero fits = absurd (omega (arith, fits))
    beyond (i ∷ more) (suc number) fits = beyond more number (omega (arith, fits))
