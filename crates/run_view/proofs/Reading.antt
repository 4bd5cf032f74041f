-- A view is read again.
use Rattle.std.proofs.Common.{◌≡◌, ◌∙◌, ap, sym, refl, subst, ℕ, suc, ◌+◌, ◌/◌, ◌≤◌, Bool, true, false, not, ◌&&◌, List, [], ◌∷◌, ◌++◌, length, arith, append_assoc, length-append, codes, decimal, Option, Some, Ok}
use Rattle.std.specs.Prelude.{◌==◌, if◌then◌else◌, slice_get}
use Rattle.std.specs.List.{AllByRecursion, flat_map}
use Rattle.std.proofs.lemmas.Fmt.{length-decimal-le}
use Rattle.pcap.specs.Record.{Record, last_moment}
use Rattle.pcap.specs.declared.text.style.Order.{Order}
use Rattle.pcap.specs.declared.text.style.Order.TheVariants.{Little}
use Rattle.pcapng_input.proofs.Readings.{packets-end}
use Rattle.pcapng_input.specs.Block.{AllRead, NoBlock, next_block}
use Rattle.pcapng_input.specs.BlockText.{IsBlockText, block_text}
use Rattle.pcapng_input.specs.Meaning.{block_meaning, record_meaning}
use Rattle.pcapng_input.specs.Options.{padded}
use Rattle.pcapng_input.specs.Reading.{Context, EndsWhole, PacketReading, context_behind, found_before, packets_in, packets_of, record_meant, start}
use Rattle.pcapng_input.specs.declared.interface.Interface.{Interface}
use Rattle.pcapng_input.specs.declared.interface.Selection.TheVariants.{Number}
use Rattle.pcapng_input.specs.declared.meaning.BlockMeaning.TheVariants.{Nothing, Section}
use Rattle.run_view.specs.Blocks.{Item, Noted, head_text, port_blocks, Packet, Remark, Shown, interface_block, item_text, journal_block, journal_fields, packet_block, padding, section_block, text_of}
use Rattle.run_view.specs.Reading.{IsWithin, Keeps, has_left, left_out_at, read_at}
use Rattle.run_view.proofs.Heads.{IsReady, interface_at, interfaces_from, length-interfaces, more_interfaces, one_block, one_interface, ports_read, section_means, section_text}
use Rattle.run_view.proofs.Lengths.{length-padding, padded-bounds}
use Rattle.run_view.proofs.Packets.{interface_read, meant, packet_means, packet_text, record_of}

-- ---- the head

section_ready : (q : ℕ) → IsReady (context_behind start section_block Section) (interfaces_from q 0 0)
unfolding section_block
section_ready q = record { order = refl; interfaces = refl; none_left = refl }

head_read : (q ports : ℕ) (rest : List ℕ) → ports ≤ 255
    → (new : Context) × IsReady new (interfaces_from q 0 (ports + 1)) × (packets_of (Number q) (head_text ports ++ rest) ≡ packets_in (Number q) new rest)
unfolding head_text
head_read q ports rest few =
    let s = block_text section_block in
    let ps = flat_map block_text (port_blocks 1 ports) in
    let u = block_text (interface_block (codes "u")) in
    let flat : (s ++ (ps ++ u)) ++ rest ≡ s ++ (ps ++ (u ++ rest)) = simp append_assoc in
    let first = one_block (Number q) start section_block (ps ++ (u ++ rest)) Section section_text (section_means (Number q) [] 0) in
    let behind = ports_read q 0 ports (context_behind start section_block Section) (u ++ rest) (omega (arith, few)) (section_ready q) in
    let e : 0 + ports ≡ ports = omega arith in
    let ready : IsReady behind.0 (interfaces_from q 0 ports) = subst (λ (k : ℕ). IsReady behind.0 (interfaces_from q 0 k)) e behind.1 in
    let long = length-interfaces q 0 ports in
    let one = one_interface q behind.0 (interfaces_from q 0 ports) (codes "u") rest (omega arith) (omega (arith, long, few)) ready in
    let last : IsReady one.0 (interfaces_from q 0 (ports + 1)) =
    subst (λ (is : List Interface). IsReady one.0 is)
    (ap (λ (k : ℕ). interfaces_from q 0 ports ++ interface_read q k ∷ []) (long ∙ sym e) ∙ more_interfaces q 0 ports ∙ (let f : suc ports ≡ ports + 1 = omega arith in ap (interfaces_from q 0) f)) one.1 in
    (one.0, last, ap (packets_in (Number q) start) flat ∙ first ∙ behind.2 ∙ one.2)

-- ---- what is told

journal_length : (moment : ℕ) (message : List ℕ) → moment ≤ last_moment → length message ≤ 65000 → length (journal_fields moment message) ≤ 65100
journal_length moment message fits short =
    let a = codes "__REALTIME_TIMESTAMP=" in
    let b = decimal (moment / 1000) in
    let c = codes "\nSYSLOG_IDENTIFIER=tep\nMESSAGE=" in
    let la : length a ≡ 21 = refl in
    let lc : length c ≡ 31 = refl in
    let lb : length b ≤ 20 = length-decimal-le 20 (moment / 1000) (omega arith) (omega (arith, fits)) (omega (arith, fits)) in
    omega (
      arith,
      length-append a (b ++ (c ++ (message ++ 10 ∷ []))),
      length-append b (c ++ (message ++ 10 ∷ [])),
      length-append c (message ++ 10 ∷ []),
      length-append message (10 ∷ []),
      la,
      lb,
      lc,
      short,
    )

journal_text : (moment : ℕ) (message : List ℕ) → moment ≤ last_moment → length message ≤ 65000
    → IsBlockText (Some Little) (journal_block moment message) (block_text (journal_block moment message))
unfolding journal_block
journal_text moment message fits short =
    let fields = journal_fields moment message in
    let bounds = padded-bounds (length fields) in
    let size : length (fields ++ padding (length fields)) ≡ padded (length fields) = length-append fields (padding (length fields)) ∙ length-padding (length fields) in
    let long = journal_length moment message fits short in
    record {
      kind_fits = omega arith;
      is_padded = omega (arith, size, bounds.1.1);
      size_fits = omega (arith, size, bounds.1.0, long);
      room = λ read. absurd cc;
      stands = refl;
      whole = refl;
    }

journal_means : (q last : ℕ) (interfaces : List Interface) (moment : ℕ) (message : List ℕ) → block_meaning (Number q) interfaces last (journal_block moment message) ≡ Ok Nothing
unfolding block_meaning journal_block
journal_means q last interfaces moment message = refl

abbrev reading_by : List Record → ℕ → PacketReading
reading_by records left = record { records = records; end = EndsWhole; left_out = left }

-- what is read of some text behind, whatever was left out before
abbrev Reads : ℕ → List Interface → List ℕ → List Record → ℕ → Type 0
Reads q interfaces text records left = (context : Context) → context.order ≡ Some Little → context.interfaces ≡ interfaces
    → packets_in (Number q) context text ≡ reading_by records (context.left_out + left)

reading_is : (records : List Record) (m n : ℕ) → m ≡ n → reading_by records m ≡ reading_by records n
reading_is records m n is = ap (reading_by records) is

one_packet : (q ports : ℕ) (p : Packet) (r : Remark) (rest : List ℕ) (records : List Record) (left : ℕ) → ports ≤ 255 → IsWithin ports p r
    → Reads q (interfaces_from q 0 (ports + 1)) rest records left
    → Reads q (interfaces_from q 0 (ports + 1)) (item_text (Shown p r) ++ rest) (read_at q (Shown p r) ++ records)
    ((if has_left r && q == p.interface then 1 else 0) + left)
one_packet q ports p r rest records left few within more context order interfaces =
    let all = interfaces_from q 0 (ports + 1) in
    let means : block_meaning (Number q) context.interfaces context.last (packet_block p r) ≡ Ok (meant q p r) =
    packet_means q context.last context.interfaces p r (omega (arith, within.interface, few)) within.moment within.original within.octets within.comment within.direction
    (ap (λ (is : List Interface). slice_get is p.interface) interfaces ∙ interface_at q 0 (ports + 1) p.interface (omega (arith, within.interface))
    ∙ (let e : 0 + p.interface ≡ p.interface = omega arith in ap (λ (k : ℕ). Some (interface_read q k)) e)) in
    let text : IsBlockText context.order (packet_block p r) (block_text (packet_block p r)) =
    subst (λ (o : Option Order). IsBlockText o (packet_block p r) (block_text (packet_block p r))) (sym order) (packet_text p r within.octets within.comment) in
    one_block (Number q) context (packet_block p r) rest (meant q p r) text means ∙ by_tests (q == p.interface) (has_left r)
  where
    by_tests : (b c : Bool)
        → found_before (record_meant (if b then record_meaning c (record_of p) else Nothing))
        (packets_in (Number q) (context_behind context (packet_block p r) (if b then record_meaning c (record_of p) else Nothing)) rest)
        ≡ reading_by ((if not c && b then record_of p ∷ [] else []) ++ records) (context.left_out + ((if c && b then 1 else 0) + left))
    by_tests false false = more (context_behind context (packet_block p r) Nothing) order interfaces ∙ reading_is records (context.left_out + left) (context.left_out + (0 + left)) (omega arith)
    by_tests false true = more (context_behind context (packet_block p r) Nothing) order interfaces ∙ reading_is records (context.left_out + left) (context.left_out + (0 + left)) (omega arith)
    by_tests true false =
        ap (found_before (Some (record_of p))) (more (context_behind context (packet_block p r) (record_meaning false (record_of p))) order interfaces)
        ∙ reading_is (record_of p ∷ records) (context.left_out + left) (context.left_out + (0 + left)) (omega arith)
    by_tests true true =
        more (context_behind context (packet_block p r) (record_meaning true (record_of p))) order interfaces
        ∙ reading_is records (context.left_out + 1 + left) (context.left_out + (1 + left)) (omega arith)

one_message : (q : ℕ) (all : List Interface) (moment : ℕ) (message rest : List ℕ) (records : List Record) (left : ℕ) → moment ≤ last_moment → length message ≤ 65000
    → Reads q all rest records left → Reads q all (item_text (Noted moment message) ++ rest) records left
one_message q all moment message rest records left fits short more context order interfaces =
    let block = journal_block moment message in
    let text : IsBlockText context.order block (block_text block) =
    subst (λ (o : Option Order). IsBlockText o block (block_text block)) (sym order) (journal_text moment message fits short) in
    one_block (Number q) context block rest Nothing text (journal_means q context.last context.interfaces moment message)
    ∙ more (context_behind context block Nothing) order interfaces

nothing_more : NoBlock AllRead ≡ next_block (Some Little) []
unfolding next_block
nothing_more = refl

none_read : (q : ℕ) (all : List Interface) → Reads q all [] [] 0
none_read q all context order interfaces =
    let ends : NoBlock AllRead ≡ next_block context.order [] = nothing_more ∙ sym (ap (λ (o : Option Order). next_block o []) order) in
    packets-end (Number q) context [] AllRead ends ∙ reading_is [] context.left_out (context.left_out + 0) (omega arith)

items_read : (q ports : ℕ) (items : List Item) → ports ≤ 255 → AllByRecursion (Keeps ports) items
    → Reads q (interfaces_from q 0 (ports + 1)) (text_of items) (flat_map (read_at q) items) (left_out_at q items)
items_read q ports [] few keeps = none_read q (interfaces_from q 0 (ports + 1))
items_read q ports (Shown p r ∷ items) few keeps =
    one_packet q ports p r (text_of items) (flat_map (read_at q) items) (left_out_at q items) few keeps.0 (items_read q ports items few keeps.1)
items_read q ports (Noted moment message ∷ items) few keeps =
    one_message q (interfaces_from q 0 (ports + 1)) moment message (text_of items) (flat_map (read_at q) items) (left_out_at q items) keeps.0.0 keeps.0.1
    (items_read q ports items few keeps.1)

pub whole_read : (ports q : ℕ) (items : List Item) → ports ≤ 255 → AllByRecursion (Keeps ports) items
    → packets_of (Number q) (head_text ports ++ text_of items)
    ≡ record { records = flat_map (read_at q) items; end = EndsWhole; left_out = left_out_at q items }
whole_read ports q items few keeps =
    let head = head_read q ports (text_of items) few in
    head.2 ∙ items_read q ports items few keeps head.0 head.1.order head.1.interfaces
    ∙ reading_is (flat_map (read_at q) items) (head.0.left_out + left_out_at q items) (left_out_at q items) (omega (arith, head.1.none_left))
