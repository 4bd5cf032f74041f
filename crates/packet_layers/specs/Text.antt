-- How the values of headers are spelt: addresses, and numbers that one knows in hexadecimal. It states no standard.
use Rattle.std.specs.Prelude.{ℕ, ◌/◌, ◌%◌, List, [], ◌∷◌, ◌++◌, codes}
use Rattle.std.specs.List.{flat_map}
use Rattle.std.specs.Char.{digit_char}
use Rattle.std.specs.Net.Addr.{segments_of}
use Rattle.std.specs.Net.Text as net

-- an octet in two hexadecimal digits, in lower case
abbrev pub hex_octet : ℕ → List ℕ
hex_octet n = digit_char (n / 16) ∷ digit_char (n % 16) ∷ []

-- octets in hexadecimal, as 0x0806
abbrev pub hex_text : List ℕ → List ℕ
hex_text b = codes "0x" ++ flat_map hex_octet b

-- a MAC address: its octets in hexadecimal, with colons between them
abbrev pub mac_text : List ℕ → List ℕ
mac_text [] = []
mac_text (o ∷ os) = hex_octet o ++ flat_map (λ p. codes ":" ++ hex_octet p) os

-- an IPv4 address: its octets in decimal, with dots between them
unfoldable pub ip4_text : List ℕ → List ℕ
ip4_text b = net.ipv4_text b

-- an IPv6 address (RFC 5952): its groups of 16 bits in hexadecimal without leading zeros, with colons between them, and
-- `::` in place of the longest run of zeros
unfoldable pub ip6_text : List ℕ → List ℕ
ip6_text b = net.ipv6_text (segments_of b)
