-- The VXLAN header (RFC 7348, 5): flags of 8 bits, 24 reserved bits, the network identifier (VNI) of 24 bits, and 8
-- reserved bits. Reserved bits are ignored on receipt and sent as 0.
use Rattle.std.specs.Prelude.{◌≡◌, ◌<◌, ℕ, ◌^◌, ◌/◌, ◌%◌, ◌==◌, Bool, IsTrue, List, [], ◌∷◌, ◌++◌, length}
use Rattle.wire.specs.Octets.{octets}

-- a number that fits the 24 bits of a VNI
abbrev pub IsVni : ℕ → Type 0
IsVni n = n < 2 ^ 24

-- the flag I (08) is set: the VNI is valid
abbrev pub has_vni : ℕ → Bool
has_vni flags = flags / 8 % 2 == 1

-- a text is a VXLAN packet of a VNI with an inner text: flags with I set, three octets, the three octets of the VNI,
-- one octet, and the inner text. All other flags and these four octets are free
pub record IsVxlan (text : List ℕ) (vni : ℕ) (inner : List ℕ) : Type 0 where
  pub flags : ℕ
  pub reserved : List ℕ
  pub last : ℕ
  pub valid : IsTrue (has_vni flags)
  pub three : length reserved ≡ 3
  pub fits : IsVni vni
  pub whole : text ≡ flags ∷ reserved ++ (octets 3 vni ++ last ∷ inner)

-- the header that is sent: I alone is set
abbrev pub vxlan_header : ℕ → List ℕ
vxlan_header vni = 0x08 ∷ 0x00 ∷ 0x00 ∷ 0x00 ∷ octets 3 vni ++ 0x00 ∷ []

-- a packet that was read: its header of 8 octets, its VNI, and its inner text
pub record VxlanParts : Type 0 where
  pub head : List ℕ
  pub vni : ℕ
  pub payload : List ℕ
