-- A packet's block is read as the packet.
use Rattle.std.proofs.Common.{◌≡◌, ◌∙◌, ap, sym, refl, ℕ, ◌+◌, ◌*◌, ◌/◌, ◌%◌, ◌<◌, ◌≤◌, ◌^◌, Bool, true, false, ◌&&◌, List, [], ◌∷◌, ◌++◌, length, take, drop, arith, append_assoc, append-nil, length-append, Option, Some, None, Ok, Err}
use Rattle.std.specs.Prelude.{◌==◌, nat_lt, if◌then◌else◌, slice_get}
use Rattle.std.proofs.lemmas.Bool.{le-ltb, ne_eqb}
use Rattle.std.proofs.lemmas.List.{drop_at, take_at}
use Rattle.std.proofs.Math.Nat.{mul-div_cancel}
use Rattle.pcap.proofs.Headers.{number_behind}
use Rattle.pcap.proofs.Numbers.{length-octets_of, number_of-octets_of}
use Rattle.pcap.specs.Header.{ethernet}
use Rattle.pcap.specs.Record.{Record, last_moment, longest}
use Rattle.pcap.specs.Style.{number_of, octets_of, second}
use Rattle.pcap.specs.declared.text.style.Order.TheVariants.{Little}
use Rattle.pcapng_input.proofs.OptionLists.{options_behind, options_end}
use Rattle.pcapng_input.specs.Block.{enhanced_packet}
use Rattle.pcapng_input.specs.BlockText.{IsBlockText, block_text}
use Rattle.pcapng_input.specs.Meaning.{block_meaning, head_in, packet_in, packet_meaning, record_meaning}
use Rattle.pcapng_input.specs.Moments.{offset_moment, ticks_in_nanoseconds}
use Rattle.pcapng_input.specs.Options.{AnotherOption, BlockOption, NoOption, OptionList, block_option_at, block_options, next_option, option_before, option_by_length, option_value, padded}
use Rattle.pcapng_input.specs.Packet.{enhanced_head, is_outbound_by, is_outbound_in, moment_by, packet_by, packet_flags, packet_record, record_at, selected_record}
use Rattle.pcapng_input.specs.declared.fault.BlockFault.TheVariants.{ShortBlock, TooLarge}
use Rattle.pcapng_input.specs.declared.interface.Interface.{Interface}
use Rattle.pcapng_input.specs.declared.interface.Selection.TheVariants.{Number}
use Rattle.pcapng_input.specs.declared.meaning.BlockMeaning.{BlockMeaning}
use Rattle.pcapng_input.specs.declared.meaning.BlockMeaning.TheVariants.{Nothing}
use Rattle.pcapng_input.specs.declared.packet.PacketHead.{PacketHead}
use Rattle.run_view.specs.Blocks.{Packet, Remark, block_of, comment_option, eight, end_of_options, four, option_text, packet_block, packet_front, packet_id_option, packet_options, padding, two}
use Rattle.run_view.specs.Reading.{has_left}
use Rattle.run_view.proofs.Lengths.{length-eight, length-four, length-front, length-options, length-padding, padded-bounds}

-- ---- options

-- an option stands in front
pub next_is : (code : ℕ) (value rest : List ℕ) → 0 < code → code < 65536 → length value < 65536
    → next_option Little (option_text code value ++ rest) ≡ AnotherOption (record { code = code; value = value }) rest
unfolding next_option option_text two
next_is code value rest some fits short =
    let size = length value in
    let c = octets_of Little 2 code in
    let l = octets_of Little 2 size in
    let pad = padding size in
    let text = (c ++ (l ++ (value ++ pad))) ++ rest in
    let flat : text ≡ c ++ (l ++ (value ++ (pad ++ rest))) = simp append_assoc in
    let flat4 : text ≡ (c ++ l) ++ (value ++ (pad ++ rest)) = flat ∙ simp append_assoc in
    let flat5 : text ≡ ((c ++ l) ++ (value ++ pad)) ++ rest = flat ∙ simp append_assoc in
    let lc = length-octets_of Little 2 code in
    let ll = length-octets_of Little 2 size in
    let l4 : length (c ++ l) ≡ 4 = omega (arith, length-append c l) in
    let l5 : length ((c ++ l) ++ (value ++ pad)) ≡ 4 + padded size =
    omega (arith, length-append (c ++ l) (value ++ pad), length-append value pad, length-padding size, l4) in
    let long : 4 + padded size ≤ length text = omega (arith, ap length flat5, length-append ((c ++ l) ++ (value ++ pad)) rest, l5) in
    let code_is : number_of Little 2 text ≡ code = ap (number_of Little 2) flat ∙ number_of-octets_of Little 2 code (l ++ (value ++ (pad ++ rest))) fits in
    let size_is : number_of Little 2 (drop 2 text) ≡ size = ap (λ (t : List ℕ). number_of Little 2 (drop 2 t)) flat ∙ number_behind Little c (value ++ (pad ++ rest)) 2 2 size lc short in
    let value_is : take size (drop 4 text) ≡ value =
    ap (λ (t : List ℕ). take size (drop 4 t)) flat4 ∙ ap (take size) (drop_at (c ++ l) (value ++ (pad ++ rest)) 4 l4) ∙ take_at value (pad ++ rest) size refl in
    let rest_is : drop (4 + padded size) text ≡ rest = ap (drop (4 + padded size)) flat5 ∙ drop_at ((c ++ l) ++ (value ++ pad)) rest (4 + padded size) l5 in
    let some_code : (code == 0) ≡ false = ne_eqb code 0 (λ e. omega (arith, e, some)) in
    ap (λ (b : Bool). if b then NoOption true else if number_of Little 2 text == 0 then NoOption true else option_by_length Little (number_of Little 2 (drop 2 text)) text)
    (le-ltb (length text) 4 (omega (arith, long)))
    ∙ ap (λ (n : ℕ). if n == 0 then NoOption true else option_by_length Little (number_of Little 2 (drop 2 text)) text) code_is
    ∙ ap (λ (b : Bool). if b then NoOption true else option_by_length Little (number_of Little 2 (drop 2 text)) text) some_code
    ∙ ap (λ (n : ℕ). option_by_length Little n text) size_is
    ∙ ap (λ (b : Bool). if b then NoOption false else AnotherOption (block_option_at Little size text) (drop (4 + padded size) text))
    (le-ltb (length text) (4 + padded size) long)
    ∙ ap (λ (n : ℕ). AnotherOption (record { code = n; value = take size (drop 4 text) }) (drop (4 + padded size) text)) code_is
    ∙ ap (λ (v : List ℕ). AnotherOption (record { code = code; value = v }) (drop (4 + padded size) text)) value_is
    ∙ ap (AnotherOption (record { code = code; value = value })) rest_is

-- the end of the options
end_is : NoOption true ≡ next_option Little end_of_options
unfolding next_option four
end_is = refl

-- an option, and those behind it
pub option_first : (code : ℕ) (value rest : List ℕ) → 0 < code → code < 65536 → length value < 65536
    → block_options Little (option_text code value ++ rest) ≡ option_before (record { code = code; value = value }) (block_options Little rest)
option_first code value rest some fits short =
    options_behind Little (option_text code value ++ rest) (record { code = code; value = value }) rest (sym (next_is code value rest some fits short))

-- none
pub options_none : block_options Little end_of_options ≡ record { options = []; is_whole = true }
options_none = options_end Little end_of_options true end_is

-- those of a packet
abbrev options_of : Remark → List BlockOption
options_of r =
    record { code = comment_option; value = r.comment }
    ∷ record { code = packet_flags; value = four r.direction }
    ∷ record { code = packet_id_option; value = eight r.event }
    ∷ []

options_are : (r : Remark) → length r.comment ≤ 65000 → block_options Little (packet_options r) ≡ record { options = options_of r; is_whole = true }
unfolding packet_options
options_are r short =
    let flags = option_text packet_flags (four r.direction) in
    let id = option_text packet_id_option (eight r.event) in
    option_first comment_option r.comment (flags ++ (id ++ end_of_options)) (omega arith) (omega arith) (omega (arith, short))
    ∙ ap (option_before (record { code = comment_option; value = r.comment }))
    (option_first packet_flags (four r.direction) (id ++ end_of_options) (omega arith) (omega arith) (omega (arith, length-four r.direction))
    ∙ ap (option_before (record { code = packet_flags; value = four r.direction }))
    (option_first packet_id_option (eight r.event) end_of_options (omega arith) (omega arith) (omega (arith, length-eight r.event))
    ∙ ap (option_before (record { code = packet_id_option; value = eight r.event })) options_none))

number_four : (n : ℕ) → n < 2 ^ 32 → number_of Little 4 (four n) ≡ n
unfolding four
number_four n fits = ap (number_of Little 4) (sym (append-nil (octets_of Little 4 n))) ∙ number_of-octets_of Little 4 n [] fits

-- the direction that is told
pub direction_is : (r : Remark) → length r.comment ≤ 65000 → r.direction < 2 ^ 32 → is_outbound_in Little (packet_options r) ≡ has_left r
unfolding is_outbound_in
direction_is r short fits =
    ap (λ (list : OptionList). is_outbound_by Little (option_value packet_flags list.options)) (options_are r short)
    ∙ ap (λ (n : ℕ). n == 4 && number_of Little 4 (four r.direction) % 4 == 2) (length-four r.direction)
    ∙ ap (λ (n : ℕ). n % 4 == 2) (number_four r.direction fits)

-- ---- a block

-- its body
abbrev pub body_of : Packet → Remark → List ℕ
body_of p r = packet_front p.interface p.moment (length p.octets) p.original ++ (p.octets ++ (padding (length p.octets) ++ packet_options r))

body_length : (p : Packet) (r : Remark) → length (body_of p r) ≡ 48 + (padded (length p.octets) + padded (length r.comment))
body_length p r =
    let front = packet_front p.interface p.moment (length p.octets) p.original in
    let pad = padding (length p.octets) in
    omega (
      arith,
      length-append front (p.octets ++ (pad ++ packet_options r)),
      length-append p.octets (pad ++ packet_options r),
      length-append pad (packet_options r),
      length-front p.interface p.moment (length p.octets) p.original,
      length-padding (length p.octets),
      length-options r,
    )

pub packet_text : (p : Packet) (r : Remark) → length p.octets ≤ longest → length r.comment ≤ 65000
    → IsBlockText (Some Little) (packet_block p r) (block_text (packet_block p r))
unfolding packet_block
packet_text p r long short =
    let size = body_length p r in
    let a = padded-bounds (length p.octets) in
    let b = padded-bounds (length r.comment) in
    record {
      kind_fits = omega arith;
      is_padded = omega (arith, size, a.1.1, b.1.1);
      size_fits = omega (arith, size, a.1.0, b.1.0);
      room = λ read. omega (arith, size, a.1.0, b.1.0);
      stands = refl;
      whole = refl;
    }

-- ---- what it means

abbrev head_by : ℕ → ℕ → ℕ → ℕ → PacketHead
head_by interface ticks captured original = record { interface = interface; ticks = Some ticks; captured = Some captured; original = original }

same_head : {i j t u c d o s : ℕ} → i ≡ j → t ≡ u → c ≡ d → o ≡ s → head_by i t c o ≡ head_by j u d s
same_head a b c d = cc

-- the head of a packet
head_is : (p : Packet) (rest : List ℕ) → p.interface < 2 ^ 32 → p.moment < 2 ^ 64 → length p.octets < 2 ^ 32 → p.original < 2 ^ 32
    → enhanced_head Little (packet_front p.interface p.moment (length p.octets) p.original ++ rest)
    ≡ head_by p.interface p.moment (length p.octets) p.original
unfolding enhanced_head packet_front four
head_is p rest fi fm fc fo =
    let high = p.moment / 4294967296 in
    let low = p.moment % 4294967296 in
    let a = octets_of Little 4 p.interface in
    let b = octets_of Little 4 high in
    let c = octets_of Little 4 low in
    let d = octets_of Little 4 (length p.octets) in
    let e = octets_of Little 4 p.original in
    let text = (a ++ (b ++ (c ++ (d ++ e)))) ++ rest in
    let flat0 : text ≡ a ++ (b ++ (c ++ (d ++ (e ++ rest)))) = simp append_assoc in
    let flat2 : text ≡ (a ++ b) ++ (c ++ (d ++ (e ++ rest))) = flat0 ∙ simp append_assoc in
    let flat3 : text ≡ ((a ++ b) ++ c) ++ (d ++ (e ++ rest)) = flat0 ∙ simp append_assoc in
    let flat4 : text ≡ (((a ++ b) ++ c) ++ d) ++ (e ++ rest) = flat0 ∙ simp append_assoc in
    let la = length-octets_of Little 4 p.interface in
    let lb = length-octets_of Little 4 high in
    let lc = length-octets_of Little 4 low in
    let ld = length-octets_of Little 4 (length p.octets) in
    let l2 : length (a ++ b) ≡ 8 = omega (arith, length-append a b) in
    let l3 : length ((a ++ b) ++ c) ≡ 12 = omega (arith, length-append (a ++ b) c) in
    let l4 : length (((a ++ b) ++ c) ++ d) ≡ 16 = omega (arith, length-append ((a ++ b) ++ c) d) in
    let p0 : number_of Little 4 text ≡ p.interface = ap (number_of Little 4) flat0 ∙ number_of-octets_of Little 4 p.interface (b ++ (c ++ (d ++ (e ++ rest)))) fi in
    let p1 : number_of Little 4 (drop 4 text) ≡ high = ap (λ (t : List ℕ). number_of Little 4 (drop 4 t)) flat0 ∙ number_behind Little a (c ++ (d ++ (e ++ rest))) 4 4 high la (omega (arith, fm)) in
    let p2 : number_of Little 4 (drop 8 text) ≡ low = ap (λ (t : List ℕ). number_of Little 4 (drop 8 t)) flat2 ∙ number_behind Little (a ++ b) (d ++ (e ++ rest)) 8 4 low l2 (omega arith) in
    let p3 : number_of Little 4 (drop 12 text) ≡ length p.octets = ap (λ (t : List ℕ). number_of Little 4 (drop 12 t)) flat3 ∙ number_behind Little ((a ++ b) ++ c) (e ++ rest) 12 4 (length p.octets) l3 fc in
    let p4 : number_of Little 4 (drop 16 text) ≡ p.original = ap (λ (t : List ℕ). number_of Little 4 (drop 16 t)) flat4 ∙ number_behind Little (((a ++ b) ++ c) ++ d) rest 16 4 p.original l4 fo in
    let whole : high * 4294967296 + low ≡ p.moment = omega arith in
    same_head p0 (ap (λ (n : ℕ). n * 4294967296 + number_of Little 4 (drop 8 text)) p1 ∙ ap (λ (n : ℕ). high * 4294967296 + n) p2 ∙ whole) p3 p4

-- the moment is read as it was told
moment_is : (interface : Interface) (last moment : ℕ) → interface.resolution ≡ 9 → interface.offset ≡ 0 → moment ≤ last_moment
    → moment_by interface last (Some moment) ≡ Some moment
unfolding offset_moment ticks_in_nanoseconds
moment_is interface last moment nine none fits =
    let same : moment * second / 1000000000 ≡ moment = mul-div_cancel moment (omega arith) in
    ap (λ (n : ℕ). offset_moment interface.offset (ticks_in_nanoseconds n moment)) nine
    ∙ ap (λ (n : ℕ). offset_moment n (ticks_in_nanoseconds 9 moment)) none
    ∙ ap (λ (n : ℕ). offset_moment 0 n) same
    ∙ ap (λ (n : ℕ). if nat_lt last_moment n then None else Some n) (let e : moment + 0 * second ≡ moment = omega arith in e)
    ∙ ap (λ (b : Bool). if b then None else Some moment) (le-ltb last_moment moment fits)

-- an interface of a view, of this number, where the packets of that are asked for
abbrev pub interface_read : ℕ → ℕ → Interface
interface_read q n = record { is_selected = q == n; link = ethernet; snap = longest; resolution = 9; offset = 0 }

-- the record of a packet
abbrev pub record_of : Packet → Record
record_of p = record { moment = p.moment; original = p.original; octets = p.octets }

abbrev head_of : Packet → PacketHead
head_of p = head_by p.interface p.moment (length p.octets) p.original

selected_is : (q last : ℕ) (p : Packet) (behind : List ℕ) → length p.octets ≤ longest → p.moment ≤ last_moment
    → selected_record (interface_read q p.interface) last (head_of p) (p.octets ++ behind) ≡ Ok (Some (record_of p))
unfolding selected_record
selected_is q last p behind long fits =
    let size = length p.octets in
    let room : size ≤ length (p.octets ++ behind) = omega (arith, length-append p.octets behind) in
    ap (λ (b : Bool). if b then Err TooLarge else if nat_lt (length (p.octets ++ behind)) size then Err ShortBlock
    else record_at (moment_by (interface_read q p.interface) last (Some p.moment)) p.original (take size (p.octets ++ behind))) (le-ltb longest size long)
    ∙ ap (λ (b : Bool). if b then Err ShortBlock else record_at (moment_by (interface_read q p.interface) last (Some p.moment)) p.original (take size (p.octets ++ behind)))
    (le-ltb (length (p.octets ++ behind)) size room)
    ∙ ap (λ (m : Option ℕ). record_at m p.original (take size (p.octets ++ behind))) (moment_is (interface_read q p.interface) last p.moment refl refl fits)
    ∙ ap (λ (t : List ℕ). record_at (Some p.moment) p.original t) (take_at p.octets behind size refl)

-- what a packet means, where its interface is asked for or not
abbrev pub meant : ℕ → Packet → Remark → BlockMeaning
meant q p r = if q == p.interface then record_meaning (has_left r) (record_of p) else Nothing

pub packet_means : (q last : ℕ) (interfaces : List Interface) (p : Packet) (r : Remark) → p.interface < 2 ^ 32 → p.moment ≤ last_moment
    → p.original < 2 ^ 32 → length p.octets ≤ longest → length r.comment ≤ 65000 → r.direction < 2 ^ 32
    → slice_get interfaces p.interface ≡ Some (interface_read q p.interface)
    → block_meaning (Number q) interfaces last (packet_block p r) ≡ Ok (meant q p r)
unfolding packet_block block_meaning packet_in
packet_means q last interfaces p r fi fm fo long short fd there =
    let front = packet_front p.interface p.moment (length p.octets) p.original in
    let rest = p.octets ++ (padding (length p.octets) ++ packet_options r) in
    let body = body_of p r in
    let size = body_length p r in
    let head : head_in (block_of enhanced_packet body) ≡ head_of p = head_is p rest fi (omega (arith, fm)) (omega (arith, long)) fo in
    let behind : drop 20 body ≡ rest = drop_at front rest 20 (length-front p.interface p.moment (length p.octets) p.original) in
    ap (λ (b : Bool). if b then Err ShortBlock else packet_meaning (block_of enhanced_packet body) (packet_record interfaces last (head_in (block_of enhanced_packet body)) (drop 20 body)))
    (le-ltb (length body) 20 (omega (arith, size)))
    ∙ ap (λ (h : PacketHead). packet_meaning (block_of enhanced_packet body) (packet_record interfaces last h (drop 20 body))) head
    ∙ ap (λ (t : List ℕ). packet_meaning (block_of enhanced_packet body) (packet_record interfaces last (head_of p) t)) behind
    ∙ ap (λ (i : Option Interface). packet_meaning (block_of enhanced_packet body) (packet_by i last (head_of p) rest)) there
    ∙ by_selected (q == p.interface) refl
  where
    options_behind_octets : drop (20 + padded (length p.octets)) (body_of p r) ≡ packet_options r
    options_behind_octets =
        let front = packet_front p.interface p.moment (length p.octets) p.original in
        let pad = padding (length p.octets) in
        let flat : body_of p r ≡ (front ++ (p.octets ++ pad)) ++ packet_options r = simp append_assoc in
        let long : length (front ++ (p.octets ++ pad)) ≡ 20 + padded (length p.octets) =
        omega (arith, length-append front (p.octets ++ pad), length-append p.octets pad, length-front p.interface p.moment (length p.octets) p.original, length-padding (length p.octets)) in
        ap (drop (20 + padded (length p.octets))) flat ∙ drop_at (front ++ (p.octets ++ pad)) (packet_options r) (20 + padded (length p.octets)) long

    by_selected : (b : Bool) → (q == p.interface) ≡ b
        → packet_meaning (block_of enhanced_packet (body_of p r)) (if b then selected_record (interface_read q p.interface) last (head_of p)
        (p.octets ++ (padding (length p.octets) ++ packet_options r)) else Ok None)
        ≡ Ok (if b then record_meaning (has_left r) (record_of p) else Nothing)
    by_selected false is = refl
    by_selected true is =
        ap (packet_meaning (block_of enhanced_packet (body_of p r))) (selected_is q last p (padding (length p.octets) ++ packet_options r) long fm)
        ∙ ap (λ (t : List ℕ). Ok (record_meaning (is_outbound_in Little t) (record_of p))) options_behind_octets
        ∙ ap (λ (b : Bool). Ok (record_meaning b (record_of p))) (direction_is r short fd)
