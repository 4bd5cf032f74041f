-- The words of kinds, tags and addresses. It states no standard.
use Rattle.std.specs.Prelude.{ℕ, ◌/◌, ◌%◌, List, [], ◌∷◌, ◌++◌, codes, decimal, Option, Some, None}
use Rattle.std.specs.Char.{digit_char}
use Rattle.wire.specs.Octets.{octet, part}
use Rattle.wire.specs.declared.ip_udp.addr.Addr.{Addr}
use Rattle.wire.specs.declared.ip_udp.addr.Addr.TheVariants.{V4, V6}
use Rattle.wire.specs.declared.ip_udp.addr.Tunnel.{Tunnel}
use Rattle.wire.specs.declared.ip_udp.addr.Tunnel.TheVariants.{Vxlan, Geneve}

-- the kind of a tunnel
abbrev pub kind_word : Tunnel → List ℕ
kind_word Vxlan = codes "vxlan"
kind_word Geneve = codes "geneve"

-- the number of a network
abbrev pub vni_word : ℕ → List ℕ
vni_word vni = decimal vni

-- the VID in a frame's tag, where it has one
abbrev pub tag_word : Option ℕ → List ℕ
tag_word None = codes "none"
tag_word (Some vid) = decimal vid

-- ---- addresses

-- an octet in two hexadecimal digits, in lower case
abbrev pub hex_octet : ℕ → List ℕ
hex_octet n = digit_char (n / 16) ∷ digit_char (n % 16) ∷ []

-- two of them
abbrev pub pair_word : ℕ → ℕ → List ℕ
pair_word high low = hex_octet high ++ hex_octet low

-- four decimals between points
unfoldable pub ip4_word : List ℕ → List ℕ
ip4_word b = decimal (octet 0 b) ++ codes "." ++ decimal (octet 1 b) ++ codes "." ++ decimal (octet 2 b) ++ codes "." ++ decimal (octet 3 b)

-- four groups of two octets between colons
unfoldable pub eight_word : List ℕ → List ℕ
eight_word b =
    pair_word (octet 0 b) (octet 1 b) ++ codes ":" ++ pair_word (octet 2 b) (octet 3 b)
    ++ codes ":" ++ pair_word (octet 4 b) (octet 5 b) ++ codes ":" ++ pair_word (octet 6 b) (octet 7 b)

-- eight groups
abbrev pub ip6_word : List ℕ → List ℕ
ip6_word b = eight_word (part 0 8 b) ++ codes ":" ++ eight_word (part 8 8 b)

-- an address of either family
abbrev pub addr_word : Addr → List ℕ
addr_word (V4 b) = ip4_word b
addr_word (V6 b) = ip6_word b
