-- The texts of addresses: MAC addresses as six pairs of hexadecimal digits, IPv4 addresses as four decimals (RFC 3986,
-- 3.2.2), IPv6 addresses in groups of hexadecimal digits (RFC 4291, 2.2, forms 1 and 2).
use Rattle.std.specs.Prelude.{ℕ, zero, suc, ◌+◌, ◌-◌, ◌*◌, List, [], ◌∷◌, ◌++◌, length, replicate, nat_le, nat_lt}
use Rattle.std.specs.Prelude.{Bool, ◌&&◌, false, ◌==◌, Option, Some, None, option_map, option_and_then, if◌then◌else◌}
use Rattle.std.specs.List.{flat_map}
use Rattle.std.specs.Int.{w16, to_be_bytes}
use Rattle.wire.specs.declared.ip_udp.addr.Addr.{Addr}
use Rattle.wire.specs.declared.ip_udp.addr.Addr.TheVariants.{V4, V6}

-- ---- digits and numbers

-- a character from one to another
abbrev pub is_within : ℕ → ℕ → ℕ → Bool
is_within low high c = nat_le low c && nat_le c high

-- the value of a hexadecimal digit of either case: '0' to '9', 'a' to 'f', 'A' to 'F'
abbrev pub hex_digit : ℕ → Option ℕ
hex_digit c =
    if is_within 48 57 c then Some (c - 48)
    else (if is_within 97 102 c then Some (c - 87) else (if is_within 65 70 c then Some (c - 55) else None))

-- the value of a decimal digit, '0' to '9'
abbrev pub decimal_digit : ℕ → Option ℕ
decimal_digit c = if is_within 48 57 c then Some (c - 48) else None

-- the number that digits write behind those that wrote n, the highest first
abbrev pub number_after : ℕ → (ℕ → Option ℕ) → ℕ → List ℕ → Option ℕ
number_after base digit n [] = Some n
number_after base digit n (c ∷ cs) = option_and_then (λ d. number_after base digit (base * n + d) cs) (digit c)

-- what an option holds, where a test holds of it
abbrev pub kept_if : {A : Type 0} → (A → Bool) → Option A → Option A
kept_if test o = option_and_then (λ x. if test x then Some x else None) o

-- a number of so many digits
abbrev pub number_of : ℕ → (ℕ → Option ℕ) → ℕ → ℕ → List ℕ → Option ℕ
number_of base digit least most text = if is_within least most (length text) then number_after base digit 0 text else None

-- two hexadecimal digits
abbrev pub hex_pair : List ℕ → Option ℕ
hex_pair text = number_of 16 hex_digit 2 2 text

-- one to four hexadecimal digits
abbrev pub hex_group : List ℕ → Option ℕ
hex_group text = number_of 16 hex_digit 1 4 text

-- more than one digit, of which the first is 0
abbrev pub has_leading_zero : List ℕ → Bool
has_leading_zero (c ∷ d ∷ cs) = c == 48
has_leading_zero _ = false

-- a decimal of 0 to 255 without leading zeros
abbrev pub decimal_octet : List ℕ → Option ℕ
decimal_octet text = if has_leading_zero text then None else kept_if (λ n. nat_le n 255) (number_of 10 decimal_digit 1 3 text)

-- ---- parts with a separator between them

-- what stands before the first separator, and what behind it
abbrev pub cut : ℕ → List ℕ → Option (List ℕ × List ℕ)
cut separator [] = None
cut separator (c ∷ cs) = if c == separator then Some ([], cs) else option_map (λ h. (c ∷ h.0, h.1)) (cut separator cs)

-- one part, or a part and more parts behind a separator
abbrev pub parts_in : {A : Type 0} → (List ℕ → Option A) → (List ℕ → Option (List A))
    → List ℕ → Option (List ℕ × List ℕ) → Option (List A)
parts_in part more text None = option_map (λ x. x ∷ []) (part text)
parts_in part more text (Some h) = option_and_then (λ x. option_map (λ xs. x ∷ xs) (more h.1)) (part h.0)

-- at most n parts with a separator between them
unfoldable pub joined : {A : Type 0} → (List ℕ → Option A) → ℕ → ℕ → List ℕ → Option (List A)
joined part separator zero text = None
joined part separator (suc n) text = parts_in part (joined part separator n) text (cut separator text)

-- so many parts, and no other number of them
abbrev pub exactly : {A : Type 0} → ℕ → Option (List A) → Option (List A)
exactly n xs = kept_if (λ x. length x == n) xs

-- ':' and '.'
abbrev pub colon : ℕ
colon = 58

-- the code of a dot
abbrev pub dot : ℕ
dot = 46

-- ---- addresses

-- a MAC address: six pairs of digits, joined by ':'
unfoldable pub mac_of : List ℕ → Option (List ℕ)
mac_of text = exactly 6 (joined hex_pair colon 8 text)

-- an IPv4 address: four decimals, joined by '.'
unfoldable pub ip4_of : List ℕ → Option (List ℕ)
ip4_of text = exactly 4 (joined decimal_octet dot 8 text)

-- what stands before the first "::", and what behind it
abbrev pub halves : List ℕ → Option (List ℕ × List ℕ)
halves [] = None
halves (c ∷ []) = None
halves (c ∷ d ∷ cs) = if (c == colon) && (d == colon) then Some ([], cs) else option_map (λ h. (c ∷ h.0, h.1)) (halves (d ∷ cs))

-- groups joined by ':', at most eight
abbrev pub groups : List ℕ → Option (List ℕ)
groups text = joined hex_group colon 8 text

-- groups joined by ':', or none
abbrev pub side : List ℕ → Option (List ℕ)
side [] = Some []
side (c ∷ cs) = groups (c ∷ cs)

-- at most seven groups, with zeros in place of those that are missing
abbrev pub filled : List ℕ → List ℕ → Option (List ℕ)
filled front back =
    if nat_lt (length front + length back) 8
    then Some (front ++ replicate (8 - (length front + length back)) 0 ++ back)
    else None

-- the eight groups: all written, or those on both sides of a "::" with the missing ones between
abbrev pub ip6_groups : List ℕ → Option (List ℕ × List ℕ) → Option (List ℕ)
ip6_groups text None = exactly 8 (groups text)
ip6_groups text (Some h) = option_and_then (λ front. option_and_then (filled front) (side h.1)) (side h.0)

-- an IPv6 address: eight groups joined by ':', or at most seven with one "::"; each group is two octets
unfoldable pub ip6_of : List ℕ → Option (List ℕ)
ip6_of text = option_map (flat_map (to_be_bytes w16)) (ip6_groups text (halves text))

-- the first of two that is there
abbrev pub or_else : {A : Type 0} → Option A → Option A → Option A
or_else (Some x) other = Some x
or_else None other = other

-- an address of either family
unfoldable pub addr_of : List ℕ → Option Addr
addr_of text = or_else (option_map V4 (ip4_of text)) (option_map V6 (ip6_of text))
