-- Headers read their own octets alone.
use Rattle.std.proofs.Common.{◌≡◌, ◌∙◌, refl, ap, ℕ, ◌+◌, ◌≤◌, List, ◌++◌, length, drop, arith, length-append, length-drop, Option, None, Some}
use Rattle.std.proofs.lemmas.Bool.{le-ltb}
use Rattle.std.proofs.lemmas.List.{drop-append-le}
use Rattle.byteorder.specs.Numbers.{big_from-append, little_from-append}
use Rattle.pcap.specs.Header.{header_in, style_by, style_by_magic, style_of}
use Rattle.pcap.specs.RecordText.{record_header_in}
use Rattle.pcap.specs.Style.{number_of}
use Rattle.pcap.specs.declared.text.style.Order.{Order}
use Rattle.pcap.specs.declared.text.style.Order.TheVariants.{Big, Little}
use Rattle.pcap.specs.declared.text.style.Style.{Style}

number_of-front : (order : Order) (n at : ℕ) (front rest : List ℕ) → at + n ≤ length front → number_of order n (drop at (front ++ rest)) ≡ number_of order n (drop at front)
number_of-front Big n at front rest fits =
    ap (number_of Big n) (drop-append-le at front rest (omega arith)) ∙ big_from-append n (drop at front) rest (omega (arith, length-drop at front))
number_of-front Little n at front rest fits =
    ap (number_of Little n) (drop-append-le at front rest (omega arith)) ∙ little_from-append n (drop at front) rest (omega (arith, length-drop at front))

pub record_header_in-front : (order : Order) (front rest : List ℕ) → length front ≡ 16 → record_header_in order (front ++ rest) ≡ record_header_in order front
unfolding record_header_in
record_header_in-front order front rest long =
    let a : number_of order 4 (front ++ rest) ≡ number_of order 4 front = number_of-front order 4 0 front rest (omega arith) in
    let b = number_of-front order 4 4 front rest (omega arith) in
    let c = number_of-front order 4 8 front rest (omega arith) in
    let d = number_of-front order 4 12 front rest (omega arith) in
    rw (a, b, c, d) refl

header_in-front : (order : Order) (front rest : List ℕ) → length front ≡ 24 → header_in order (front ++ rest) ≡ header_in order front
unfolding header_in
header_in-front order front rest long =
    let a = number_of-front order 2 4 front rest (omega arith) in
    let b = number_of-front order 2 6 front rest (omega arith) in
    let c = number_of-front order 4 20 front rest (omega arith) in
    rw (a, b, c) refl

style_by_magic-front : (front rest : List ℕ) → length front ≡ 24 → style_by_magic (front ++ rest) ≡ style_by_magic front
unfolding style_by_magic
style_by_magic-front front rest long =
    let a : number_of Big 4 (front ++ rest) ≡ number_of Big 4 front = number_of-front Big 4 0 front rest (omega arith) in
    let b : number_of Little 4 (front ++ rest) ≡ number_of Little 4 front = number_of-front Little 4 0 front rest (omega arith) in
    rw (a, b) refl

style_by-front : (found : Option Style) (front rest : List ℕ) → length front ≡ 24 → style_by found (front ++ rest) ≡ style_by found front
style_by-front None front rest long = refl
style_by-front (Some style) front rest long = rw (header_in-front style.order front rest long) refl

pub style_of-front : (front rest : List ℕ) → length front ≡ 24 → style_of (front ++ rest) ≡ style_of front
unfolding style_of
style_of-front front rest long =
    rw (
      le-ltb (length (front ++ rest)) 24 (omega (arith, length-append front rest)),
      le-ltb (length front) 24 (omega arith),
      style_by_magic-front front rest long,
    ) (style_by-front (style_by_magic front) front rest long)
