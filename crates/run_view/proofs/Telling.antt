-- Blocks and items as they are told.
use Rattle.std.proofs.Common.{◌≡◌, ◌∙◌, ap, sym, refl, subst, ℕ, zero, suc, ◌+◌, List, [], ◌∷◌, ◌++◌, length, append-nil, append_assoc, codes, decimal, arith, ◌<◌, map, take, get_or}
use Rattle.std.proofs.lemmas.List.{map-append, take_more}
use Rattle.filter_db.specs.declared.place.Place.{Place}
use Rattle.endpoint_core.specs.Decision.{Sent}
use Rattle.std.specs.List.{flat_map}
use Rattle.std.proofs.lemmas.List.Concat.{flat_map-append}
use Rattle.pcapng_input.specs.Block.{Block, enhanced_packet, interface_description, section_header}
use Rattle.pcapng_input.specs.BlockText.{block_text}
use Rattle.decision_objects.specs.Writing.{Tells, Told}
use Rattle.decision_objects.proofs.Growing.{tells_more}
use Rattle.run_view.specs.Blocks.{Item, Packet, Remark, block_of, head_text, packet_block, packet_front, packet_options, padding, interface_block, item_text, journal_block, journal_export, port_blocks, section_block, text_of}

pub section_is : block_of section_header section_block.body ≡ section_block
unfolding section_block
section_is = refl

pub interface_is : (name : List ℕ) → block_of interface_description (interface_block name).body ≡ interface_block name
unfolding interface_block
interface_is name = refl

pub journal_is : (moment : ℕ) (message : List ℕ) → block_of journal_export (journal_block moment message).body ≡ journal_block moment message
unfolding journal_block
journal_is moment message = refl

-- a block whose body stands in a line
pub told_as : (a b : Told) (kind : ℕ) (line body : List ℕ) (block : Block) → line ≡ body → block_of kind body ≡ block
    → Tells a b (block_text (block_of kind line)) → Tells a b (block_text block)
told_as a b kind line body block is same told =
    subst (λ (x : Block). Tells a b (block_text x)) same (subst (λ (t : List ℕ). Tells a b (block_text (block_of kind t))) is told)

-- the head
pub head_told : (a b c d : Told) (ports : ℕ) → Tells a b (block_text section_block) → Tells b c (flat_map block_text (port_blocks 1 ports))
    → Tells c d (block_text (interface_block (codes "u"))) → Tells a d (head_text ports)
unfolding head_text
head_told a b c d ports first second third =
    let ps = flat_map block_text (port_blocks 1 ports) in
    let u = block_text (interface_block (codes "u")) in
    tells_more a b d (block_text section_block) (ps ++ u) first (tells_more b c d ps u second third)

more_ports : (port n : ℕ) → flat_map block_text (port_blocks port (suc n)) ≡ flat_map block_text (port_blocks port n) ++ block_text (interface_block (codes "p" ++ decimal (port + n)))
more_ports port zero =
    let e : port ≡ port + 0 = omega arith in
    append-nil (block_text (interface_block (codes "p" ++ decimal port))) ∙ ap (λ (k : ℕ). block_text (interface_block (codes "p" ++ decimal k))) e
more_ports port (suc n) =
    let e : port + 1 + n ≡ port + suc n = omega arith in
    let name = block_text (interface_block (codes "p" ++ decimal port)) in
    ap (λ (t : List ℕ). name ++ t) (more_ports (port + 1) n)
    ∙ sym (append_assoc name (flat_map block_text (port_blocks (port + 1) n)) (block_text (interface_block (codes "p" ++ decimal (port + 1 + n)))))
    ∙ ap (λ (k : ℕ). (name ++ flat_map block_text (port_blocks (port + 1) n)) ++ block_text (interface_block (codes "p" ++ decimal k))) e

-- an interface more
pub port_told : (a b c : Told) (i : ℕ) (name : List ℕ) → Tells a b (flat_map block_text (port_blocks 1 i)) → name ≡ codes "p" ++ decimal (i + 1)
    → Tells b c (block_text (interface_block name)) → Tells a c (flat_map block_text (port_blocks 1 (i + 1)))
port_told a b c i name so_far is told =
    let e : i + 1 ≡ suc i = omega arith in
    let f : i + 1 ≡ 1 + i = omega arith in
    let here : Tells b c (block_text (interface_block (codes "p" ++ decimal (1 + i)))) =
    subst (λ (t : List ℕ). Tells b c (block_text (interface_block t))) (is ∙ ap (λ (k : ℕ). codes "p" ++ decimal k) f) told in
    subst (λ (t : List ℕ). Tells a c t) (sym (more_ports 1 i) ∙ ap (λ (k : ℕ). flat_map block_text (port_blocks 1 k)) (sym e))
    (tells_more a b c (flat_map block_text (port_blocks 1 i)) (block_text (interface_block (codes "p" ++ decimal (1 + i)))) so_far here)

-- one item
pub item_told : (a b : Told) (item : Item) → Tells a b (item_text item) → Tells a b (text_of (item ∷ []))
item_told a b item told = subst (λ (t : List ℕ). Tells a b t) (sym (append-nil (item_text item))) told

-- a packet and what is said of it
pub packet_is : (p : Packet) (r : Remark) → block_of enhanced_packet
    (packet_front p.interface p.moment (length p.octets) p.original ++ (p.octets ++ (padding (length p.octets) ++ packet_options r))) ≡ packet_block p r
unfolding packet_block
packet_is p r = refl

-- an outlet more
pub outlet_told : (a b c : Told) (f : Sent → List Item) (g : Place → Sent) (places : List Place) (i : ℕ) (none : Place) → i < length places
    → Tells a b (text_of (flat_map f (map g (take i places)))) → Tells b c (text_of (f (g (get_or places i none))))
    → Tells a c (text_of (flat_map f (map g (take (i + 1) places))))
outlet_told a b c f g places i none h so_far here =
    let x = get_or places i none in
    let front = flat_map f (map g (take i places)) in
    let one : flat_map f (map g (take (i + 1) places)) ≡ front ++ f (g x) =
    ap (λ (ps : List Place). flat_map f (map g ps)) (take_more places i none h) ∙ ap (flat_map f) (map-append g (take i places) (x ∷ []))
    ∙ flat_map-append f (map g (take i places)) (g x ∷ []) ∙ ap (λ (t : List Item). front ++ t) (append-nil (f (g x))) in
    subst (λ (t : List ℕ). Tells a c t) (sym (ap text_of one ∙ flat_map-append item_text front (f (g x)))) (tells_more a b c (text_of front) (text_of (f (g x))) so_far here)
