-- How long the parts of blocks are.
use Rattle.std.proofs.Common.{◌≡◌, ◌∙◌, ap, ℕ, ◌+◌, ◌-◌, ◌/◌, ◌%◌, ◌≤◌, List, [], ◌∷◌, ◌++◌, length, arith, append_assoc, length-append, length-take}
use Rattle.pcap.proofs.Numbers.{length-octets_of}
use Rattle.pcap.specs.Style.{octets_of}
use Rattle.pcap.specs.declared.text.style.Order.TheVariants.{Little}
use Rattle.pcapng_input.specs.BlockText.{block_text}
use Rattle.pcapng_input.specs.Options.{padded}
use Rattle.run_view.specs.Blocks.{Remark, block_of, comment_option, eight, end_of_options, four, option_text, packet_front, packet_id_option, packet_options, padding, two}
use Rattle.pcapng_input.specs.Packet.{packet_flags}

pub length-two : (n : ℕ) → length (two n) ≡ 2
unfolding two
length-two n = length-octets_of Little 2 n

pub length-four : (n : ℕ) → length (four n) ≡ 4
unfolding four
length-four n = length-octets_of Little 4 n

pub length-eight : (n : ℕ) → length (eight n) ≡ 8
unfolding eight
length-eight n = length-octets_of Little 8 n

-- a length is padded by three at most, to a multiple of four
pub padded-bounds : (n : ℕ) → (n ≤ padded n) × ((padded n ≤ n + 3) × (padded n % 4 ≡ 0))
padded-bounds n = (omega arith, (omega arith, omega arith))

pub length-padding : (n : ℕ) → n + length (padding n) ≡ padded n
unfolding padding
length-padding n =
    let zeros : List ℕ = 0 ∷ 0 ∷ 0 ∷ [] in
    omega (arith, length-take (padded n - n) zeros, (padded-bounds n).0, (padded-bounds n).1.0)

pub length-option : (code : ℕ) (value : List ℕ) → length (option_text code value) ≡ 4 + padded (length value)
unfolding option_text
length-option code value =
    omega (
      arith,
      length-append (two code) (two (length value) ++ (value ++ padding (length value))),
      length-append (two (length value)) (value ++ padding (length value)),
      length-append value (padding (length value)),
      length-two code,
      length-two (length value),
      length-padding (length value),
    )

pub length-front : (interface moment captured original : ℕ) → length (packet_front interface moment captured original) ≡ 20
unfolding packet_front
length-front interface moment captured original =
    let a = four interface in
    let b = four (moment / 4294967296) in
    let c = four (moment % 4294967296) in
    let d = four captured in
    let e = four original in
    omega (
      arith,
      length-append a (b ++ (c ++ (d ++ e))),
      length-append b (c ++ (d ++ e)),
      length-append c (d ++ e),
      length-append d e,
      length-four interface,
      length-four (moment / 4294967296),
      length-four (moment % 4294967296),
      length-four captured,
      length-four original,
    )

pub length-options : (r : Remark) → length (packet_options r) ≡ 28 + padded (length r.comment)
unfolding packet_options
length-options r =
    let a = option_text comment_option r.comment in
    let b = option_text packet_flags (four r.direction) in
    let c = option_text packet_id_option (eight r.event) in
    let fours : padded (length (four r.direction)) ≡ 4 = ap (λ (n : ℕ). padded n) (length-four r.direction) in
    let eights : padded (length (eight r.event)) ≡ 8 = ap (λ (n : ℕ). padded n) (length-eight r.event) in
    omega (
      arith,
      length-append a (b ++ (c ++ end_of_options)),
      length-append b (c ++ end_of_options),
      length-append c end_of_options,
      length-option comment_option r.comment,
      length-option packet_flags (four r.direction),
      length-option packet_id_option (eight r.event),
      length-four 0,
      fours,
      eights,
    )

-- ---- blocks, as they are told

-- a front, a body, and the length again
pub block_is : (kind size : ℕ) (body : List ℕ) → size ≡ 12 + length body → (four kind ++ four size) ++ (body ++ four size) ≡ block_text (block_of kind body)
unfolding four
block_is kind size body is =
    append_assoc (octets_of Little 4 kind) (octets_of Little 4 size) (body ++ octets_of Little 4 size)
    ∙ ap (λ (n : ℕ). octets_of Little 4 kind ++ (octets_of Little 4 n ++ (body ++ octets_of Little 4 n))) is

-- a front, a head and octets, and what stands behind them
pub parts_are : (front head octets tail last : List ℕ) → (front ++ (head ++ octets)) ++ (tail ++ last) ≡ front ++ ((head ++ (octets ++ tail)) ++ last)
parts_are front head octets tail last = simp append_assoc

-- a block whose front and text lie apart
pub block_told : (kind size : ℕ) (body line front text : List ℕ) → front ≡ four kind ++ four size → line ≡ body ++ four size → text ≡ line
    → size ≡ 12 + length body → front ++ text ≡ block_text (block_of kind body)
block_told kind size body line front text front_is line_is text_is size_is =
    ap (λ (t : List ℕ). t ++ text) front_is ∙ ap (λ (t : List ℕ). (four kind ++ four size) ++ t) (text_is ∙ line_is) ∙ block_is kind size body size_is

-- the same of a packet, whose head and octets lie apart, too
pub packet_told : (kind size : ℕ) (front head known octets tail line text : List ℕ) → front ≡ four kind ++ four size → head ≡ known → line ≡ tail ++ four size
    → text ≡ line → size ≡ 12 + length (known ++ (octets ++ tail))
    → (front ++ (head ++ octets)) ++ text ≡ block_text (block_of kind (known ++ (octets ++ tail)))
packet_told kind size front head known octets tail line text front_is head_is line_is text_is size_is =
    ap (λ (t : List ℕ). (front ++ (head ++ octets)) ++ t) (text_is ∙ line_is) ∙ parts_are front head octets tail (four size)
    ∙ ap (λ (t : List ℕ). t ++ ((head ++ (octets ++ tail)) ++ four size)) front_is
    ∙ ap (λ (t : List ℕ). (four kind ++ four size) ++ ((t ++ (octets ++ tail)) ++ four size)) head_is ∙ block_is kind size (known ++ (octets ++ tail)) size_is
