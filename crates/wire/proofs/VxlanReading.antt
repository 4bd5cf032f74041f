-- A text is a VXLAN packet where none of the faults holds, and nowhere else.
use Rattle.std.proofs.Common.{◌≡◌, ℕ, true, List, [], ◌∷◌, ◌++◌, length, drop, None, refl, sym, ap, ◌∙◌, subst, arith}
use Rattle.std.proofs.lemmas.Bool.{ltb-false, le-ltb, not-false, not_from_true}
use Rattle.wire.specs.Octets.{octet, octets}
use Rattle.wire.proofs.OctetsLemmas.{cells8, octets3-field, field3-below}
use Rattle.wire.proofs.FirstLemmas.{NothingHolds-from, first-nothing}
use Rattle.wire.specs.First.{first}
use Rattle.wire.specs.Vxlan.{IsVni, has_vni}
use Rattle.wire.specs.VxlanReading.{vxlan_vni, vxlan_inner, vxlan_faults, PacketWhereNothingHolds, PacketNowhereElse, PacketSent}

pub vxlan-found : PacketWhereNothingHolds
vxlan-found text octets_are none =
    let holds = NothingHolds-from (vxlan_faults text) none in
    record {
      flags = octet 0 text;
      reserved = octet 1 text ∷ octet 2 text ∷ octet 3 text ∷ [];
      last = octet 7 text;
      valid = not-false (has_vni (octet 0 text)) holds.1.0;
      three = refl;
      fits = field3-below 4 text octets_are;
      whole = cells8 text (ltb-false _ _ holds.0)
          ∙ ap (λ (x : List ℕ). octet 0 text ∷ octet 1 text ∷ octet 2 text ∷ octet 3 text ∷ (x ++ octet 7 text ∷ drop 8 text)) (sym (octets3-field 4 text octets_are));
    }

-- what is read of a text
abbrev Says : List ℕ → ℕ → List ℕ → Type 0
Says text vni inner = (first (vxlan_faults text) ≡ None) × (vxlan_vni text ≡ vni) × (vxlan_inner text ≡ inner)

says : (flags : ℕ) (reserved : List ℕ) (vni last : ℕ) (inner : List ℕ) → length reserved ≡ 3 → IsVni vni → has_vni flags ≡ true
    → Says (flags ∷ reserved ++ (octets 3 vni ++ last ∷ inner)) vni inner
says flags [] vni last inner three fits valid = absurd (omega arith)
says flags (a ∷ []) vni last inner three fits valid = absurd (omega arith)
says flags (a ∷ b ∷ []) vni last inner three fits valid = absurd (omega arith)
says flags (a ∷ b ∷ c ∷ []) vni last inner three fits valid =
    let text = flags ∷ a ∷ b ∷ c ∷ octets 3 vni ++ last ∷ inner in
    (first-nothing (vxlan_faults text) (le-ltb _ _ (omega arith), (not_from_true (has_vni flags) valid, tt)), omega arith, refl)
says flags (a ∷ b ∷ c ∷ d ∷ reserved) vni last inner three fits valid = absurd (omega arith)

pub vxlan-only : PacketNowhereElse
vxlan-only text vni inner packet =
    subst (λ (x : List ℕ). Says x vni inner) (sym packet.whole) (says packet.flags packet.reserved vni packet.last inner packet.three packet.fits packet.valid)

pub vxlan-sent : PacketSent
vxlan-sent vni inner fits = record { flags = 8; reserved = 0 ∷ 0 ∷ 0 ∷ []; last = 0; valid = refl; three = refl; fits = fits; whole = refl }
