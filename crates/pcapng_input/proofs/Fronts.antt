-- The packets that a text of blocks begins with.
use Rattle.std.proofs.Common.{◌≡◌, ◌∙◌, refl, sym, ap, subst, ℕ, ◌+◌, ◌-◌, ◌%◌, ◌<◌, ◌≤◌, Bool, true, false, List, [], ◌++◌, length, drop, arith, append_assoc, length-drop, length-take, Option, None, Some, Result, Ok, Err}
use Rattle.std.specs.Prelude.{◌==◌, ◌&&◌, ◌||◌, nat_lt, not, if◌then◌else◌, slice_get}
use Rattle.std.proofs.lemmas.Bool.{eq-eqb, le-ltb, lt-ltb, ltb-true}
use Rattle.std.proofs.lemmas.List.{drop-drop}
use Rattle.pcap.specs.Record.{IsWithinLimits, Record}
use Rattle.pcap.specs.Style.{number_of}
use Rattle.pcap.specs.Written.{written_record}
use Rattle.pcap.specs.declared.text.style.Order.{Order}
use Rattle.pcapng_input.proofs.Grown.{Grows, by_checked, by_order_of, grown}
use Rattle.pcapng_input.proofs.Readings.{packets-behind}
use Rattle.pcapng_input.proofs.Settling.{told_found}
use Rattle.pcapng_input.specs.Adapted.{Told, behind_other, told_behind, told_reading}
use Rattle.pcapng_input.specs.Block.{AnotherBlock, Block, block_by_length, block_by_order, is_no_length, is_read, longest_block, next_block, told_order}
use Rattle.pcapng_input.specs.Front.{GivesPackets, HasNoOptions, IsEnhanced, IsFrontPacket, bare_packet, body_of, is_other}
use Rattle.pcapng_input.specs.Meaning.{block_meaning, is_outbound, packet_in, packet_meaning, record_meaning}
use Rattle.pcapng_input.specs.Options.{NoOption, block_options, first_options, next_option, option_by_length, option_value, options_by, padded}
use Rattle.pcapng_input.specs.Packet.{enhanced_head, is_outbound_by, is_outbound_in, packet_by, packet_record}
use Rattle.pcapng_input.specs.Reading.{Context, Step, found_before, packets_in, step_by, step_of}
use Rattle.pcapng_input.specs.declared.fault.BlockFault.{BlockFault}
use Rattle.pcapng_input.specs.declared.fault.BlockFault.TheVariants.{ShortBlock}
use Rattle.pcapng_input.specs.declared.front.FrontPacket.{FrontPacket}
use Rattle.pcapng_input.specs.declared.front.FrontPacket.TheVariants as front
use Rattle.pcapng_input.specs.declared.interface.Interface.{Interface}
use Rattle.pcapng_input.specs.declared.interface.Selection.{Selection}
use Rattle.pcapng_input.specs.declared.packet.PacketHead.{PacketHead}

-- the packet of an interface that isn't selected has no record
no_record : (interface : Option Interface) (last : ℕ) (head : PacketHead) (octets : List ℕ) → is_other interface ≡ true → packet_by interface last head octets ≡ Ok None
no_record None last head octets is = absurd cc
no_record (Some interface) last head octets is = by_selected interface.is_selected is
  where
    by_selected : (b : Bool) → is_other (Some (record interface { is_selected = b })) ≡ true
        → packet_by (Some (record interface { is_selected = b })) last head octets ≡ Ok None
    by_selected true is = absurd cc
    by_selected false is = refl

-- ---- a whole enhanced packet block in front of a text

-- the block
abbrev block_of : Order → List ℕ → ℕ → Block
block_of order text size = record { order = order; kind = 6; body = body_of text size }

-- it means its packet
meaning : (selection : Selection) (interfaces : List Interface) (last : ℕ) (order : Order) (body : List ℕ) → 20 ≤ length body
    → block_meaning selection interfaces last (record { order = order; kind = 6; body = body })
    ≡ packet_meaning (record { order = order; kind = 6; body = body }) (packet_record interfaces last (enhanced_head order body) (drop 20 body))
unfolding block_meaning packet_in enhanced_head
meaning selection interfaces last order body long =
    ap (λ b. if b then Err ShortBlock else packet_meaning (record { order = order; kind = 6; body = body })
    (packet_record interfaces last (enhanced_head order body) (drop 20 body))) (le-ltb (length body) 20 long)

body_size : (order : Order) (text : List ℕ) (size : ℕ) → IsEnhanced order text size → 12 + length (body_of text size) ≡ size
body_size order text size is = omega (arith, length-take (size - 12) (drop 8 text), length-drop 8 text, is.long, is.fits)

step_as : (selection : Selection) (context : Context) (order : Order) (text : List ℕ) (size : ℕ) (found : Option Record) → IsEnhanced order text size
    → packet_record context.interfaces context.last (enhanced_head order (body_of text size)) (drop 20 (body_of text size)) ≡ Ok found
    → step_of selection context (block_of order text size) ≡ step_by context (block_of order text size) (packet_meaning (block_of order text size) (Ok found))
unfolding step_of
step_as selection context order text size found is packet =
    ap (step_by context (block_of order text size))
    (meaning selection context.interfaces context.last order (body_of text size) (omega (arith, body_size order text size is, is.long)) ∙ ap (packet_meaning (block_of order text size)) packet)

-- behind it
abbrev pub behind_packet : Context → ℕ → ℕ → Context
behind_packet context size last = record {
  order = context.order;
  interfaces = context.interfaces;
  last = last;
  left_out = context.left_out;
  blocks = context.blocks + 1;
  offset = context.offset + size;
}

-- it is next, whatever stands behind
enhanced_next : (context : Context) (text rest : List ℕ) (order : Order) (size : ℕ) → context.order ≡ Some order → IsEnhanced order text size
    → AnotherBlock (block_of order text size) (drop size text ++ rest) ≡ next_block context.order (text ++ rest)
enhanced_next context text rest order size section is =
    sym (subst (λ n. Grows n (next_block context.order (text ++ rest)) rest) here (grown context.order text rest twelve))
  where
    twelve : 12 ≤ length text
    twelve = omega (arith, is.long, is.fits)

    aligned : is_no_length size ≡ false
    aligned = ap (λ b. b || not (size % 4 == 0)) (le-ltb size 12 (omega (arith, is.long))) ∙ ap not (eq-eqb (size % 4) 0 is.aligned)

    roomy : (is_read (number_of order 4 text) && nat_lt longest_block size) ≡ false
    roomy = ap (λ k. is_read k && nat_lt longest_block size) is.kind ∙ le-ltb longest_block size is.room

    here : next_block context.order text ≡ AnotherBlock (block_of order text size) (drop size text)
    here =
        by_order_of context.order text twelve
        ∙ ap (λ b. block_by_order (if b then told_order text else context.order) text) is.section
        ∙ ap (λ o. block_by_order o text) section
        ∙ ap (λ n. block_by_length order n text) is.told
        ∙ by_checked order size text false false false true aligned roomy (le-ltb (length text) size is.fits) (eq-eqb _ _ is.again)
        ∙ ap (λ k. AnotherBlock (record { order = order; kind = k; body = body_of text size }) (drop size text)) is.kind

-- one that isn't selected is passed over
passes_other : (selection : Selection) (context : Context) (text rest : List ℕ) (order : Order) (size : ℕ) → context.order ≡ Some order → IsEnhanced order text size
    → is_other (slice_get context.interfaces (number_of order 4 (body_of text size))) ≡ true
    → packets_in selection context (text ++ rest) ≡ packets_in selection (behind_other context size) (drop size text ++ rest)
unfolding enhanced_head
passes_other selection context text rest order size section is other =
    packets-behind selection context (text ++ rest) (block_of order text size) (drop size text ++ rest) (record { context = behind_other context size; found = None })
    (enhanced_next context text rest order size section is)
    (step_as selection context order text size None is
    (no_record (slice_get context.interfaces (number_of order 4 (body_of text size))) context.last (enhanced_head order (body_of text size)) (drop 20 (body_of text size)) other)
    ∙ ap (λ n. step n) (body_size order text size is))
  where
    step : ℕ → Result Step BlockFault
    step n = Ok (record { context = behind_other context n; found = None })

-- a text that is shorter than an option has none
no_options : (order : Order) (text : List ℕ) → length text < 4 → is_outbound_in order text ≡ false
unfolding is_outbound_in block_options first_options next_option
no_options order text short =
    ap (λ b. is_outbound_by order (option_value 2 (options_by (first_options (length text) order)
    (if b then NoOption true else if number_of order 2 text == 0 then NoOption true else option_by_length order (number_of order 2 (drop 2 text)) text)).options))
    (lt-ltb (length text) 4 short)

-- and so the packet isn't outbound
not_outbound : (order : Order) (body : List ℕ) (r : Record) → HasNoOptions body r → is_outbound (length r.octets) (record { order = order; kind = 6; body = body }) ≡ false
not_outbound order body r bare =
    let size = length r.octets in
    no_options order (drop (20 + padded size) body) (omega (arith, bare, length-drop 20 body, length-drop (20 + padded size) body))

-- one that is has its record
finds_packet : (selection : Selection) (context : Context) (text rest : List ℕ) (order : Order) (size : ℕ) (r : Record) → context.order ≡ Some order → IsEnhanced order text size
    → packet_record context.interfaces context.last (enhanced_head order (body_of text size)) (drop 20 (body_of text size)) ≡ Ok (Some r)
    → HasNoOptions (body_of text size) r
    → packets_in selection context (text ++ rest) ≡ found_before (Some r) (packets_in selection (behind_packet context size r.moment) (drop size text ++ rest))
finds_packet selection context text rest order size r section is packet bare =
    packets-behind selection context (text ++ rest) (block_of order text size) (drop size text ++ rest) (record { context = behind_packet context size r.moment; found = Some r })
    (enhanced_next context text rest order size section is)
    (step_as selection context order text size (Some r) is packet
    ∙ ap (λ b. step_by context (block_of order text size) (Ok (record_meaning b r))) (not_outbound order (body_of text size) r bare)
    ∙ ap (λ n. step n) (body_size order text size is))
  where
    step : ℕ → Result Step BlockFault
    step n = Ok (record { context = behind_packet context n r.moment; found = Some r })

-- what is found there doesn't hang on where it lies
pub front_as : (order : Order) (interfaces interfaces' : List Interface) (last last' : ℕ) (text text' : List ℕ) (front : FrontPacket) → interfaces ≡ interfaces' → last ≡ last'
    → text ≡ text' → IsFrontPacket order interfaces last text front → IsFrontPacket order interfaces' last' text' front
front_as order interfaces interfaces' last last' text text' front p q r is =
    subst (λ (l : List Interface). IsFrontPacket order l last' text' front) p
    (subst (λ n. IsFrontPacket order interfaces n text' front) q (subst (λ t. IsFrontPacket order interfaces last t front) r is))

-- a packet that has a record is found where behind it there is no room for an option
pub bare_front : (order : Order) (interfaces : List Interface) (last : ℕ) (text : List ℕ) (size : ℕ) (octets : List ℕ) (r : Record) → octets ≡ drop 20 (body_of text size)
    → IsEnhanced order text size → packet_record interfaces last (enhanced_head order (body_of text size)) (drop 20 (body_of text size)) ≡ Ok (Some r)
    → IsWithinLimits r → IsFrontPacket order interfaces last text (bare_packet size octets r)
bare_front order interfaces last text size octets r same whole packet limits = by_room (nat_lt (length octets) (length r.octets + 4)) refl
  where
    by_room : (b : Bool) → nat_lt (length octets) (length r.octets + 4) ≡ b
        → IsFrontPacket order interfaces last text (if b then front.Selected size r else front.Unknown)
    by_room true e = (whole, packet, limits, subst (λ t. length t < length r.octets + 4) same (ltb-true (length octets) (length r.octets + 4) e))
    by_room false e = tt

-- ---- the packets that are given

-- none is
pub gives_none : (context : Context) (text given : List ℕ) → given ≡ [] → GivesPackets context context text 0 given
gives_none context text given none = record {
  blocks = omega arith;
  offset = omega arith;
  told = λ selection rest. ap (λ t. told_behind t (told_reading (packets_in selection context (text ++ rest)))) none;
}

-- one more is passed over
pub gives_other : (old mid new : Context) (text given : List ℕ) (order : Order) (at size : ℕ) → GivesPackets old mid text at given → mid.order ≡ Some order
    → IsEnhanced order (drop at text) size → is_other (slice_get mid.interfaces (number_of order 4 (body_of (drop at text) size))) ≡ true → new ≡ behind_other mid size
    → GivesPackets old new text (at + size) given
gives_other old mid new text given order at size is section whole other new_is =
    let blocks : new.blocks ≡ mid.blocks + 1 = ap (λ (c : Context). c.blocks) new_is in
    let offset : new.offset ≡ mid.offset + size = ap (λ (c : Context). c.offset) new_is in
    record {
      blocks = omega (arith, is.blocks, blocks, whole.long);
      offset = omega (arith, is.offset, offset);
      told = λ selection rest.
          ap (λ (c : Context). told_behind given (told_reading (packets_in selection c (drop (at + size) text ++ rest)))) new_is
          ∙ ap (λ t. told_behind given (told_reading (packets_in selection (behind_other mid size) (t ++ rest)))) (sym (drop-drop size at text))
          ∙ ap (λ reading. told_behind given (told_reading reading)) (sym (passes_other selection mid (drop at text) rest order size section whole other))
          ∙ is.told selection rest;
    }

-- one more is given
pub gives_packet : (old mid new : Context) (text given more : List ℕ) (order : Order) (at size : ℕ) (r : Record) → GivesPackets old mid text at given → mid.order ≡ Some order
    → IsEnhanced order (drop at text) size
    → packet_record mid.interfaces mid.last (enhanced_head order (body_of (drop at text) size)) (drop 20 (body_of (drop at text) size)) ≡ Ok (Some r)
    → HasNoOptions (body_of (drop at text) size) r → new ≡ behind_packet mid size r.moment → more ≡ given ++ written_record r → GivesPackets old new text (at + size) more
gives_packet old mid new text given more order at size r is section whole packet bare new_is more_is =
    let blocks : new.blocks ≡ mid.blocks + 1 = ap (λ (c : Context). c.blocks) new_is in
    let offset : new.offset ≡ mid.offset + size = ap (λ (c : Context). c.offset) new_is in
    record {
      blocks = omega (arith, is.blocks, blocks, whole.long);
      offset = omega (arith, is.offset, offset);
      told = λ selection rest.
          let after = packets_in selection (behind_packet mid size r.moment) (drop size (drop at text) ++ rest) in
          ap (λ (c : Context). told_behind more (told_reading (packets_in selection c (drop (at + size) text ++ rest)))) new_is
          ∙ ap (λ t. told_behind more (told_reading (packets_in selection (behind_packet mid size r.moment) (t ++ rest)))) (sym (drop-drop size at text))
          ∙ ap (λ t. told_behind t (told_reading after)) more_is
          ∙ ap (λ t. with_octets t (told_reading after)) (append_assoc given (written_record r) (told_reading after).octets)
          ∙ ap (told_behind given) (sym (told_found (Some r) after))
          ∙ ap (λ reading. told_behind given (told_reading reading)) (sym (finds_packet selection mid (drop at text) rest order size r section whole packet bare))
          ∙ is.told selection rest;
    }
  where
    with_octets : List ℕ → Told → Told
    with_octets t told = record { octets = t; fault = told.fault; left_out = told.left_out }
