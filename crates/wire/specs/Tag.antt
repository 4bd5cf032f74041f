-- VLAN tags (IEEE 802.1Q, 9.6): behind the type 8100 stand 16 bits of control, which are a priority (PCP) of 3 bits,
-- the drop eligible bit (DEI) and a VLAN identifier (VID) of 12 bits.
use Rattle.std.specs.Prelude.{◌≡◌, ◌⊎◌, ℕ, zero, suc, Bool, true, false, IsTrue, ◌+◌, ◌*◌, ◌/◌, ◌%◌, ◌≤◌}
use Rattle.std.specs.Prelude.{◌==◌, ◌&&◌, ◌||◌, nat_le, if◌then◌else◌, List, [], ◌∷◌, ◌++◌, length, drop}
use Rattle.std.specs.List.{concat, AllByRecursion}
use Rattle.wire.specs.Octets.{octets, begins}

-- an identifier that names a VLAN: neither 0, which gives a priority alone, nor the reserved 4095
abbrev pub IsVid : ℕ → Type 0
IsVid n = (1 ≤ n) × (n ≤ 4094)

-- the priority code point, the high 3 bits
abbrev pub pcp_of : ℕ → ℕ
pcp_of tci = tci / 8192

-- the drop eligible indicator, the bit below
abbrev pub dei_of : ℕ → Bool
dei_of tci = tci / 4096 % 2 == 1

-- the VID, the low 12 bits
abbrev pub vid_of : ℕ → ℕ
vid_of tci = tci % 4096

-- a bit as a number
abbrev pub bit : Bool → ℕ
bit true = 1
bit false = 0

-- the tag control information (TCI) of a priority, a drop eligible bit and an identifier
abbrev pub tci_of : ℕ → Bool → ℕ → ℕ
tci_of pcp dei vid = 8192 * pcp + 4096 * bit dei + vid

-- a text begins with the type of a customer tag
abbrev pub begins_tag : List ℕ → Bool
begins_tag t = begins (0x81 ∷ 0x00 ∷ []) t

-- the four octets of a customer tag
abbrev pub tag_text : ℕ → List ℕ
tag_text tci = 0x81 ∷ 0x00 ∷ octets 2 tci

-- ---- tags in front of an outer packet's type, of customers (8100) and of providers (88A8)

-- a text begins with a whole tag of either kind
abbrev pub has_outer_tag : List ℕ → Bool
has_outer_tag t = (begins_tag t || begins (0x88 ∷ 0xA8 ∷ []) t) && nat_le 4 (length t)

-- 4 octets of a customer or a service tag
abbrev pub IsOuterTag : List ℕ → Type 0
IsOuterTag t = (length t ≡ 4) × IsTrue (has_outer_tag t)

-- a text is these tags and this rest: the longest front of at most n tags, so that the rest begins with a tag only
-- where there are n
pub record SkipsTags (n : ℕ) (text tags rest : List ℕ) : Type 0 where
  pub list : List (List ℕ)
  pub are_tags : AllByRecursion IsOuterTag list
  pub at_most : length list ≤ n
  pub tags_are : tags ≡ concat list
  pub whole : text ≡ tags ++ rest
  pub longest : (length list ≡ n) ⊎ (has_outer_tag rest ≡ false)

-- what is left of a text behind its longest front of at most n tags
abbrev pub without_tags : ℕ → List ℕ → List ℕ
without_tags zero t = t
without_tags (suc n) t = if has_outer_tag t then without_tags n (drop 4 t) else t
