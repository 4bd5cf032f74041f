-- Addresses in a line, read by their digits alone: whether they are written as they have to be is seen where they are written
-- again. It states no standard.
--     front, back      what stands before the first such character, and behind it
--     addr_of      four decimals between points, or eight groups of four hexadecimal digits between colons
use Rattle.std.specs.Prelude.{ℕ, ◌+◌, ◌-◌, ◌*◌, ◌%◌, ◌==◌, nat_lt, if◌then◌else◌, List, [], ◌∷◌, length, Option, Some}
use Rattle.std.specs.Option.{option_and_then}
use Rattle.wire.specs.Octets.{octet}
use Rattle.wire.specs.declared.ip_udp.addr.Addr.{Addr}
use Rattle.wire.specs.declared.ip_udp.addr.Addr.TheVariants.{V4, V6}
use Rattle.line_words.specs.Splits.{before_octet, behind_octet}
-- a number of 8 bits, and that which a text writes
pub use Rattle.line_words.specs.Numbers.{byte_of, octet_of as decimal_octet}

-- ---- parts of a word

-- what stands before the first such character, or all of it
abbrev pub front : ℕ → List ℕ → List ℕ
front s text = before_octet s text

-- what stands behind it, or nothing
abbrev pub back : ℕ → List ℕ → List ℕ
back s text = behind_octet s text

-- ---- digits

-- what a character is worth, '0' to '9' and 'a' to 'f'
abbrev pub hex_value : ℕ → ℕ
hex_value c = if nat_lt c 58 then (c - 48) % 16 else (c - 87) % 16

-- the octet that two characters write, from this one on
abbrev pub pair_at : ℕ → List ℕ → ℕ
pair_at k text = 16 * hex_value (octet k text) + hex_value (octet (k + 1) text)

-- ---- addresses

-- four decimals
abbrev pub ip4_of : List ℕ → Option Addr
ip4_of text =
    option_and_then (λ a. option_and_then (λ b. option_and_then (λ c. option_and_then (λ d. Some (V4 (a ∷ b ∷ c ∷ d ∷ [])))
    (decimal_octet (back 46 (back 46 (back 46 text)))))
    (decimal_octet (front 46 (back 46 (back 46 text)))))
    (decimal_octet (front 46 (back 46 text))))
    (decimal_octet (front 46 text))

-- eight groups
abbrev pub ip6_of : List ℕ → Addr
ip6_of text =
    V6 (pair_at 0 text ∷ pair_at 2 text ∷ pair_at 5 text ∷ pair_at 7 text
    ∷ pair_at 10 text ∷ pair_at 12 text ∷ pair_at 15 text ∷ pair_at 17 text
    ∷ pair_at 20 text ∷ pair_at 22 text ∷ pair_at 25 text ∷ pair_at 27 text
    ∷ pair_at 30 text ∷ pair_at 32 text ∷ pair_at 35 text ∷ pair_at 37 text ∷ [])

-- no four decimals have so many characters as eight groups
abbrev pub addr_of : List ℕ → Option Addr
addr_of text = if length text == 39 then Some (ip6_of text) else ip4_of text
