-- Two sums of octets, by which an accident is noticed: J. G. Fletcher, An Arithmetic Checksum for Serial Transmissions (IEEE
-- Transactions on Communications, 1982), over words of 64 bits and modulo a prime. The second sum counts the words from the
-- front, so it is (n + 1) A - B of Fletcher's two sums A and B of n words (RFC 1146, 2).
use Rattle.std.specs.Prelude.{◌≡◌, ◌<◌, ℕ, ◌+◌, ◌*◌, ◌^◌, ◌/◌, ◌%◌, List, [], ◌∷◌, length}
use Rattle.octet_sums.specs.declared.fletcher.sum.OctetSum.{OctetSum}

-- octets from a place on, each as often as its place weighs
abbrev pub weighed : (ℕ → ℕ) → ℕ → List ℕ → ℕ
weighed weight place [] = 0
weighed weight place (octet ∷ octets) = octet * weight place + weighed weight (place + 1) octets

-- what an octet weighs in its word of 64 bits, of which the first octet is the least significant
abbrev pub in_word : ℕ → ℕ
in_word place = 2 ^ (8 * (place % 8))

-- and as often as the number of its word, from 1
abbrev pub in_text : ℕ → ℕ
in_text place = in_word place * (place / 8 + 1)

-- the greatest prime below 2^64
abbrev pub prime : ℕ
prime = 18446744073709551557

-- the sum of a text's words, and that of its words each as often as its number
abbrev pub first_sum : List ℕ → ℕ
first_sum text = weighed in_word 0 text % prime

abbrev pub second_sum : List ℕ → ℕ
second_sum text = weighed in_text 0 text % prime

-- the number and the sums of a text's octets
abbrev pub sum_of : List ℕ → OctetSum
sum_of text = record { octets = length text; first = first_sum text; second = second_sum text }

-- these are they, where the text has fewer than 2^64 octets
abbrev pub IsSumOf : OctetSum → List ℕ → Type 0
IsSumOf sum text = length text < 2 ^ 64 → sum ≡ sum_of text
