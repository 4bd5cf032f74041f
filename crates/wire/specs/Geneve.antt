-- The Geneve header (RFC 8926, 3.4): the version (2 bits) and Opt Len (6 bits), the flags O and C and 6 reserved bits,
-- the protocol type (16 bits), the network identifier (VNI, 24 bits) and 8 reserved bits; then the options. Reserved bits
-- are ignored on receipt and sent as 0.
use Rattle.std.specs.Prelude.{◌≡◌, ◌<◌, ℕ, ◌*◌, List, [], ◌∷◌, ◌++◌, length}
use Rattle.wire.specs.Octets.{octets}
use Rattle.wire.specs.Vxlan.{IsVni}
use Rattle.wire.specs.GeneveOptions.{TunnelOption, AreOptionTexts}

-- a text is a Geneve packet of a VNI with these options and an inner text: an octet below 64, which is Opt Len (the
-- version is 0), an octet below 128 (O is 0; C and the reserved bits are free), the protocol type 6558, the three octets
-- of the VNI, one octet, the texts of the options, which have 4 times Opt Len octets, and the inner text
pub record IsGeneve (text : List ℕ) (vni : ℕ) (options : List TunnelOption) (inner : List ℕ) : Type 0 where
  pub opt_len : ℕ
  pub flags : ℕ
  pub last : ℕ
  pub option_texts : List ℕ
  pub version_0 : opt_len < 64
  pub no_control : flags < 128
  pub fits : IsVni vni
  pub room : length option_texts ≡ 4 * opt_len
  pub options_are : AreOptionTexts options option_texts
  pub whole : text ≡ opt_len ∷ flags ∷ 0x65 ∷ 0x58 ∷ octets 3 vni ++ (last ∷ option_texts ++ inner)

-- the header that is sent: version 0, no options, both flags 0
abbrev pub geneve_header : ℕ → List ℕ
geneve_header vni = 0x00 ∷ 0x00 ∷ 0x65 ∷ 0x58 ∷ octets 3 vni ++ 0x00 ∷ []

-- a packet that was read: its header with the options, its VNI, its options, and its inner text
pub record GeneveParts : Type 0 where
  pub head : List ℕ
  pub vni : ℕ
  pub options : List TunnelOption
  pub payload : List ℕ
