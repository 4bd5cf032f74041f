-- Addresses of both families (RFC 791, 3.2; RFC 4291, 2), and the MAC addresses of their groups (RFC 1112, 6.4;
-- RFC 2464, 7).
use Rattle.std.specs.Prelude.{◌≡◌, ℕ, ◌/◌, ◌%◌, ◌==◌, ◌||◌, Bool, true, false, not, List, ◌∷◌, length, drop, replicate}
use Rattle.wire.specs.declared.ip_udp.addr.Addr.{Addr}
use Rattle.wire.specs.declared.ip_udp.addr.Addr.TheVariants.{V4, V6}
use Rattle.wire.specs.declared.ip_udp.addr.Tunnel.{Tunnel}
use Rattle.wire.specs.declared.ip_udp.addr.Tunnel.TheVariants.{Vxlan, Geneve}
use Rattle.wire.specs.Octets.{IsText, octet, is_same}

-- the octets of an address, 4 or 16
abbrev pub address : Addr → List ℕ
address (V4 b) = b
address (V6 b) = b

-- as many octets as an address of its family has
abbrev pub IsAddr : Addr → Type 0
IsAddr (V4 b) = (length b ≡ 4) × IsText b
IsAddr (V6 b) = (length b ≡ 16) × IsText b

-- a group: 224.0.0.0/4 and ff00::/8
abbrev pub is_group : Addr → Bool
is_group (V4 b) = octet 0 b / 16 == 14
is_group (V6 b) = octet 0 b == 255

-- neither 0.0.0.0 nor 255.255.255.255 nor ::
abbrev pub is_usable : Addr → Bool
is_usable (V4 b) = not (is_same b (replicate 4 0) || is_same b (replicate 4 255))
is_usable (V6 b) = not (is_same b (replicate 16 0))

-- the MAC address of a group: 01-00-5E and the low 23 bits; 33-33 and the low 32 bits
abbrev pub group_mac : Addr → List ℕ
group_mac (V4 b) = 0x01 ∷ 0x00 ∷ 0x5E ∷ (octet 1 b % 128) ∷ drop 2 b
group_mac (V6 b) = 0x33 ∷ 0x33 ∷ drop 12 b

-- both addresses are of one family
abbrev pub same_family : Addr → Addr → Bool
same_family (V4 a) (V4 b) = true
same_family (V4 a) (V6 b) = false
same_family (V6 a) (V4 b) = false
same_family (V6 a) (V6 b) = true

-- equality as a test, of addresses
abbrev pub same_addr : Addr → Addr → Bool
same_addr (V4 a) (V4 b) = is_same a b
same_addr (V4 a) (V6 b) = false
same_addr (V6 a) (V4 b) = false
same_addr (V6 a) (V6 b) = is_same a b

-- equality as a test, of tunnel kinds
abbrev pub same_kind : Tunnel → Tunnel → Bool
same_kind Vxlan Vxlan = true
same_kind Vxlan Geneve = false
same_kind Geneve Vxlan = false
same_kind Geneve Geneve = true
