-- The head of a view is read as its interfaces.
use Rattle.std.proofs.Common.{◌≡◌, ◌∙◌, ap, sym, refl, subst, ℕ, zero, suc, ◌+◌, ◌<◌, ◌≤◌, Bool, true, List, [], ◌∷◌, ◌++◌, length, arith, append_assoc, length-append, codes, decimal, Option, Some, None, Ok, Err}
use Rattle.std.specs.Prelude.{if◌then◌else◌, slice_get}
use Rattle.std.specs.List.{flat_map}
use Rattle.std.proofs.lemmas.Bool.{le-ltb, lt-ltb}
use Rattle.std.proofs.lemmas.Fmt.{length-decimal-le}
use Rattle.pcap.specs.declared.text.style.Order.TheVariants.{Little}
use Rattle.pcapng_input.proofs.BlockTexts.{reads_block_texts}
use Rattle.pcapng_input.proofs.Readings.{packets-behind}
use Rattle.pcapng_input.specs.Block.{Block}
use Rattle.pcapng_input.specs.BlockText.{IsBlockText, block_text}
use Rattle.pcapng_input.specs.Interface.{described, described_by}
use Rattle.pcapng_input.specs.Meaning.{block_meaning, interface_in, interface_meaning, most_interfaces, section_in}
use Rattle.pcapng_input.specs.Options.{block_options, option_before, padded}
use Rattle.pcapng_input.specs.Reading.{Context, context_behind, found_before, packets_in, record_meant, step_by, step_of}
use Rattle.pcapng_input.specs.declared.fault.BlockFault.TheVariants.{ShortBlock, TooManyInterfaces}
use Rattle.pcapng_input.specs.declared.interface.Interface.{Interface}
use Rattle.pcapng_input.specs.declared.interface.Selection.{Selection}
use Rattle.pcapng_input.specs.declared.interface.Selection.TheVariants.{Number}
use Rattle.pcapng_input.specs.declared.meaning.BlockMeaning.{BlockMeaning}
use Rattle.pcapng_input.specs.declared.meaning.BlockMeaning.TheVariants.{Described, Section}
use Rattle.run_view.specs.Blocks.{eight, end_of_options, four, interface_block, name_option, port_blocks, option_text, padding, resolution_option, section_block, two}
use Rattle.run_view.proofs.Lengths.{length-four, length-option, padded-bounds}
use Rattle.run_view.proofs.Packets.{interface_read, option_first, options_none}

-- ---- a block more

step_is : (selection : Selection) (context : Context) (block : Block) (meaning : BlockMeaning) → block_meaning selection context.interfaces context.last block ≡ Ok meaning
    → step_of selection context block ≡ Ok (record { context = context_behind context block meaning; found = record_meant meaning })
unfolding step_of
step_is selection context block meaning is = ap (step_by context block) is

-- a block's text is read as what it means, and then the text behind it
pub one_block : (selection : Selection) (context : Context) (block : Block) (rest : List ℕ) (meaning : BlockMeaning) → IsBlockText context.order block (block_text block)
    → block_meaning selection context.interfaces context.last block ≡ Ok meaning
    → packets_in selection context (block_text block ++ rest) ≡ found_before (record_meant meaning) (packets_in selection (context_behind context block meaning) rest)
one_block selection context block rest meaning text is =
    packets-behind selection context (block_text block ++ rest) block rest (record { context = context_behind context block meaning; found = record_meant meaning })
    (sym (reads_block_texts context.order block (block_text block) rest text)) (step_is selection context block meaning is)

-- ---- the section

pub section_text : IsBlockText None section_block (block_text section_block)
unfolding section_block option_text padding two four eight
section_text = record {
  kind_fits = omega arith;
  is_padded = refl;
  size_fits = omega arith;
  room = λ read. omega arith;
  stands = (_, refl);
  whole = refl;
}

pub section_means : (selection : Selection) (interfaces : List Interface) (last : ℕ) → block_meaning selection interfaces last section_block ≡ Ok Section
unfolding block_meaning section_in section_block option_text padding two four eight
section_means selection interfaces last = refl

-- ---- an interface

abbrev options_text : List ℕ → List ℕ
options_text name = option_text name_option name ++ (option_text resolution_option (9 ∷ []) ++ end_of_options)

options_are : (name : List ℕ) → length name ≤ 4 → block_options Little (options_text name)
    ≡ record { options = record { code = name_option; value = name } ∷ record { code = resolution_option; value = 9 ∷ [] } ∷ []; is_whole = true }
options_are name short =
    option_first name_option name (option_text resolution_option (9 ∷ []) ++ end_of_options) (omega arith) (omega arith) (omega (arith, short))
    ∙ ap (option_before (record { code = name_option; value = name }))
    (option_first resolution_option (9 ∷ []) end_of_options (omega arith) (omega arith) (omega arith)
    ∙ ap (option_before (record { code = resolution_option; value = 9 ∷ [] })) options_none)

options_length : (name : List ℕ) → length (options_text name) ≡ 16 + padded (length name)
options_length name =
    omega (
      arith,
      length-append (option_text name_option name) (option_text resolution_option (9 ∷ []) ++ end_of_options),
      length-append (option_text resolution_option (9 ∷ [])) end_of_options,
      length-option name_option name,
      length-option resolution_option (9 ∷ []),
      length-four 0,
    )

-- its body, of which the first eight octets are known
body_is : (name : List ℕ) → (interface_block name).body ≡ 1 ∷ 0 ∷ 0 ∷ 0 ∷ 0 ∷ 0 ∷ 4 ∷ 0 ∷ options_text name
unfolding interface_block two four
body_is name = refl

interface_text : (name : List ℕ) → length name ≤ 4 → IsBlockText (Some Little) (interface_block name) (block_text (interface_block name))
unfolding interface_block
interface_text name short =
    let size : length (interface_block name).body ≡ 24 + padded (length name) = omega (arith, ap (λ (t : List ℕ). length t) (body_is name), options_length name) in
    let bounds = padded-bounds (length name) in
    record {
      kind_fits = omega arith;
      is_padded = omega (arith, size, bounds.1.1);
      size_fits = omega (arith, size, bounds.1.0, short);
      room = λ read. omega (arith, size, bounds.1.0, short);
      stands = refl;
      whole = refl;
    }

described_is : (q n : ℕ) (name : List ℕ) → length name ≤ 4 → described (Number q) n Little (1 ∷ 0 ∷ 0 ∷ 0 ∷ 0 ∷ 0 ∷ 4 ∷ 0 ∷ options_text name) ≡ Ok (interface_read q n)
unfolding described
described_is q n name short =
    let body = 1 ∷ 0 ∷ 0 ∷ 0 ∷ 0 ∷ 0 ∷ 4 ∷ 0 ∷ options_text name in
    ap (λ (b : Bool). if b then Err ShortBlock else described_by (Number q) n Little body (block_options Little (options_text name))) (le-ltb (length body) 8 (omega arith))
    ∙ ap (described_by (Number q) n Little body) (options_are name short)

interface_means : (q last : ℕ) (interfaces : List Interface) (name : List ℕ) → length name ≤ 4 → length interfaces < 4096
    → block_meaning (Number q) interfaces last (interface_block name) ≡ Ok (Described (interface_read q (length interfaces)))
unfolding block_meaning interface_in interface_block
interface_means q last interfaces name short few =
    ap (λ (b : Bool). if b then interface_meaning (described (Number q) (length interfaces) Little (interface_block name).body) else Err TooManyInterfaces) (lt-ltb (length interfaces) most_interfaces few)
    ∙ ap (λ (t : List ℕ). interface_meaning (described (Number q) (length interfaces) Little t)) (body_is name)
    ∙ ap interface_meaning (described_is q (length interfaces) name short)

-- ---- all of them

-- the interfaces from this number on, so many
abbrev pub interfaces_from : ℕ → ℕ → ℕ → List Interface
interfaces_from q m zero = []
interfaces_from q m (suc n) = interface_read q m ∷ interfaces_from q (suc m) n

pub interface_at : (q m n k : ℕ) → k < n → slice_get (interfaces_from q m n) k ≡ Some (interface_read q (m + k))
interface_at q m zero k h = absurd (omega (arith, h))
interface_at q m (suc n) zero h = let e : m ≡ m + 0 = omega arith in ap (λ (i : ℕ). Some (interface_read q i)) e
interface_at q m (suc n) (suc k) h =
    let e : suc m + k ≡ m + suc k = omega arith in
    interface_at q (suc m) n k (omega (arith, h)) ∙ ap (λ (i : ℕ). Some (interface_read q i)) e

-- in front of what is told, these are known: the order of octets, the interfaces, and that nothing was left out
pub record IsReady (context : Context) (known : List Interface) : Type 0 where
  pub order : context.order ≡ Some Little
  pub interfaces : context.interfaces ≡ known
  pub none_left : context.left_out ≡ 0

-- one interface more
pub one_interface : (q : ℕ) (context : Context) (interfaces : List Interface) (name rest : List ℕ) → length name ≤ 4 → length interfaces < 4096 → IsReady context interfaces
    → (new : Context) × IsReady new (interfaces ++ interface_read q (length interfaces) ∷ [])
    × (packets_in (Number q) context (block_text (interface_block name) ++ rest) ≡ packets_in (Number q) new rest)
one_interface q context interfaces name rest short few ready =
    let found = interface_read q (length interfaces) in
    let means : block_meaning (Number q) context.interfaces context.last (interface_block name) ≡ Ok (Described found) =
    ap (λ (is : List Interface). block_meaning (Number q) is context.last (interface_block name)) ready.interfaces ∙ interface_means q context.last interfaces name short few in
    let text : IsBlockText context.order (interface_block name) (block_text (interface_block name)) =
    subst (λ (o : Option _). IsBlockText o (interface_block name) (block_text (interface_block name))) (sym ready.order) (interface_text name short) in (
      context_behind context (interface_block name) (Described found),
      record {
        order = ready.order;
        interfaces = ap (λ (is : List Interface). is ++ found ∷ []) ready.interfaces;
        none_left = ready.none_left;
      },
      one_block (Number q) context (interface_block name) rest (Described found) text means,
    )

name_short : (port : ℕ) → port ≤ 255 → length (codes "p" ++ decimal port) ≤ 4
name_short port h = omega (arith, length-decimal-le 3 port (omega arith) (omega (arith, h)) (omega (arith, h)))

pub length-interfaces : (q m n : ℕ) → length (interfaces_from q m n) ≡ n
length-interfaces q m zero = refl
length-interfaces q m (suc n) = ap suc (length-interfaces q (suc m) n)

pub more_interfaces : (q m n : ℕ) → interfaces_from q m n ++ interface_read q (m + n) ∷ [] ≡ interfaces_from q m (suc n)
more_interfaces q m zero = let e : m + 0 ≡ m = omega arith in ap (λ (i : ℕ). interface_read q i ∷ []) e
more_interfaces q m (suc n) =
    let e : m + suc n ≡ suc m + n = omega arith in
    ap (λ (i : ℕ). interface_read q m ∷ (interfaces_from q (suc m) n ++ interface_read q i ∷ [])) e ∙ ap (λ (is : List Interface). interface_read q m ∷ is) (more_interfaces q (suc m) n)

-- where so many stand, so many ports more
pub ports_read : (q done n : ℕ) (context : Context) (rest : List ℕ) → done + n ≤ 255 → IsReady context (interfaces_from q 0 done)
    → (new : Context) × IsReady new (interfaces_from q 0 (done + n))
    × (packets_in (Number q) context (flat_map block_text (port_blocks (done + 1) n) ++ rest) ≡ packets_in (Number q) new rest)
ports_read q done zero context rest few ready =
    let e : done ≡ done + 0 = omega arith in
    (context, subst (λ (k : ℕ). IsReady context (interfaces_from q 0 k)) e ready, refl)
ports_read q done (suc n) context rest few ready =
    let name = codes "p" ++ decimal (done + 1) in
    let block = block_text (interface_block name) in
    let others = flat_map block_text (port_blocks (done + 1 + 1) n) in
    let long = length-interfaces q 0 done in
    let one = one_interface q context (interfaces_from q 0 done) name (others ++ rest) (name_short (done + 1) (omega (arith, few))) (omega (arith, long, few)) ready in
    let here : IsReady one.0 (interfaces_from q 0 (done + 1)) =
    subst (λ (is : List Interface). IsReady one.0 is)
    (ap (λ (k : ℕ). interfaces_from q 0 done ++ interface_read q k ∷ []) (long ∙ (let e : done ≡ 0 + done = omega arith in e)) ∙ more_interfaces q 0 done ∙ (let e : suc done ≡ done + 1 = omega arith in ap (interfaces_from q 0) e)) one.1 in
    let more = ports_read q (done + 1) n one.0 rest (omega (arith, few)) here in
    let e : done + 1 + n ≡ done + suc n = omega arith in (
      more.0,
      subst (λ (k : ℕ). IsReady more.0 (interfaces_from q 0 k)) e more.1,
      ap (packets_in (Number q) context) (append_assoc block others rest) ∙ one.2 ∙ more.2,
    )
