-- What stands at the places of a VXLAN packet, and why a text is none (RFC 7348, 5).
use Rattle.std.specs.Prelude.{◌≡◌, ℕ, Bool, not, nat_lt, List, [], ◌∷◌, ◌++◌, length, drop, None}
use Rattle.wire.specs.First.{first}
use Rattle.wire.specs.declared.ether.reason.Reason.{Reason}
use Rattle.wire.specs.declared.ether.reason.Reason.TheVariants as reason
use Rattle.wire.specs.Octets.{IsText, octet, field}
use Rattle.wire.specs.Vxlan.{IsVni, has_vni, IsVxlan, vxlan_header}
use Rattle.wire.specs.declared.vxlan.view.VxlanFault.{VxlanFault}
use Rattle.wire.specs.declared.vxlan.view.VxlanFault.TheVariants.{ShortTunnel, NoVniFlag}

-- the VNI: octets 4 to 6
abbrev pub vxlan_vni : List ℕ → ℕ
vxlan_vni text = field 4 3 text

-- the inner text: from octet 8 on
abbrev pub vxlan_inner : List ℕ → List ℕ
vxlan_inner text = drop 8 text

-- there is no room for a header
abbrev pub is_short : List ℕ → Bool
is_short text = nat_lt (length text) 8

-- the flag I is 0
abbrev pub lacks_vni : List ℕ → Bool
lacks_vni text = not (has_vni (octet 0 text))

-- the faults of a text, in the order of the checks
abbrev pub vxlan_faults : List ℕ → List (VxlanFault × Bool)
vxlan_faults text = (ShortTunnel, is_short text) ∷ (NoVniFlag, lacks_vni text) ∷ []

-- the reason of a drop that a fault is
abbrev pub reason_of : VxlanFault → Reason
reason_of ShortTunnel = reason.ShortTunnel
reason_of NoVniFlag = reason.NoVniFlag

-- ---- how the faults and the form belong together

-- a text that has none of the faults is a packet
abbrev pub PacketWhereNothingHolds : Type 0
PacketWhereNothingHolds =
    (text : List ℕ) → IsText text → first (vxlan_faults text) ≡ None → IsVxlan text (vxlan_vni text) (vxlan_inner text)

-- a packet has none of the faults, and no other VNI and inner text than those at their places
abbrev pub PacketNowhereElse : Type 0
PacketNowhereElse =
    (text : List ℕ) (vni : ℕ) (inner : List ℕ) → IsVxlan text vni inner
    → (first (vxlan_faults text) ≡ None) × (vxlan_vni text ≡ vni) × (vxlan_inner text ≡ inner)

-- the header that is sent, with any text behind it, is a packet
abbrev pub PacketSent : Type 0
PacketSent = (vni : ℕ) (inner : List ℕ) → IsVni vni → IsVxlan (vxlan_header vni ++ inner) vni inner
