-- Numbers as octets, in either order.
use Rattle.std.proofs.Common.{◌≡◌, refl, ℕ, ◌^◌, ◌/◌, ◌%◌, ◌<◌, ◌≤◌, List, [], ◌∷◌, ◌++◌, length, take, arith}
use Rattle.byteorder.specs.Numbers.{big_from-lt, big_number-reads_back, length-bytes_high_first, length-bytes_low_first, little_from-lt, little_number-reads_back}
use Rattle.wire.specs.Octets.{IsText}
use Rattle.pcap.specs.Style.{number_of, octets_of}
use Rattle.pcap.specs.declared.text.style.Order.{Order}
use Rattle.pcap.specs.declared.text.style.Order.TheVariants.{Big, Little}

pub length-octets_of : (order : Order) (n x : ℕ) → length (octets_of order n x) ≡ n
length-octets_of Big n x = length-bytes_high_first n x
length-octets_of Little n x = length-bytes_low_first 0 n x

-- what is spelled is read
pub number_of-octets_of : (order : Order) (n x : ℕ) (rest : List ℕ) → x < 256 ^ n → number_of order n (octets_of order n x ++ rest) ≡ x
number_of-octets_of Big n x rest fits = big_number-reads_back n x rest fits
number_of-octets_of Little n x rest fits = little_number-reads_back n x rest fits

pub number_of-fits : (order : Order) (n : ℕ) (text : List ℕ) → IsText text → number_of order n text < 256 ^ n
number_of-fits Big n text h = big_from-lt 0 n text h
number_of-fits Little n text h = little_from-lt 0 n text h

two : (order : Order) (a b : ℕ) (rest : List ℕ) → a < 256 → b < 256 → octets_of order 2 (number_of order 2 (a ∷ b ∷ rest)) ≡ a ∷ b ∷ []
two Big a b rest ha hb =
    let n = number_of Big 2 (a ∷ b ∷ rest) in
    let pa : n / 256 % 256 ≡ a = omega arith in
    let pb : n % 256 ≡ b = omega arith in
    rw (pa, pb) refl
two Little a b rest ha hb =
    let n = number_of Little 2 (a ∷ b ∷ rest) in
    let pa : n % 256 ≡ a = omega arith in
    let pb : n / 256 % 256 ≡ b = omega arith in
    rw (pa, pb) refl

four : (order : Order) (a b c d : ℕ) (rest : List ℕ) → a < 256 → b < 256 → c < 256 → d < 256
    → octets_of order 4 (number_of order 4 (a ∷ b ∷ c ∷ d ∷ rest)) ≡ a ∷ b ∷ c ∷ d ∷ []
four Big a b c d rest ha hb hc hd =
    let n = number_of Big 4 (a ∷ b ∷ c ∷ d ∷ rest) in
    let pa : n / 16777216 % 256 ≡ a = omega arith in
    let pb : n / 65536 % 256 ≡ b = omega arith in
    let pc : n / 256 % 256 ≡ c = omega arith in
    let pd : n % 256 ≡ d = omega arith in
    rw (pa, pb, pc, pd) refl
four Little a b c d rest ha hb hc hd =
    let n = number_of Little 4 (a ∷ b ∷ c ∷ d ∷ rest) in
    let pa : n % 256 ≡ a = omega arith in
    let pb : n / 256 % 256 ≡ b = omega arith in
    let pc : n / 65536 % 256 ≡ c = omega arith in
    let pd : n / 16777216 % 256 ≡ d = omega arith in
    rw (pa, pb, pc, pd) refl

-- what is read spells what was there
pub octets2-number_of : (order : Order) (text : List ℕ) → IsText text → 2 ≤ length text → octets_of order 2 (number_of order 2 text) ≡ take 2 text
octets2-number_of order [] h long = absurd (omega arith)
octets2-number_of order (a ∷ []) h long = absurd (omega arith)
octets2-number_of order (a ∷ b ∷ rest) h long = two order a b rest (h 0) (h 1)

pub octets4-number_of : (order : Order) (text : List ℕ) → IsText text → 4 ≤ length text → octets_of order 4 (number_of order 4 text) ≡ take 4 text
octets4-number_of order [] h long = absurd (omega arith)
octets4-number_of order (a ∷ []) h long = absurd (omega arith)
octets4-number_of order (a ∷ b ∷ []) h long = absurd (omega arith)
octets4-number_of order (a ∷ b ∷ c ∷ []) h long = absurd (omega arith)
octets4-number_of order (a ∷ b ∷ c ∷ d ∷ rest) h long = four order a b c d rest (h 0) (h 1) (h 2) (h 3)
