-- MAC addresses, as their six octets (IEEE 802, 8.2.2; IEEE 802.1Q, 8.6.3).
use Rattle.std.specs.Prelude.{ℕ, Bool, ◌%◌, ◌==◌, ◌&&◌, nat_lt, List, [], ◌∷◌}
use Rattle.wire.specs.Octets.{octet, begins}

-- a group address: the low bit of the first octet is set (IEEE 802, 8.2.2)
abbrev pub is_group : List ℕ → Bool
is_group mac = octet 0 mac % 2 == 1

-- one of the addresses that a bridge doesn't forward, 01-80-C2-00-00-00 to 01-80-C2-00-00-0F (IEEE 802.1Q, 8.6.3)
abbrev pub is_reserved : List ℕ → Bool
is_reserved mac = begins (0x01 ∷ 0x80 ∷ 0xC2 ∷ 0x00 ∷ 0x00 ∷ []) mac && nat_lt (octet 5 mac) 16
