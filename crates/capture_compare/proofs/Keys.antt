-- A key tells what it is the key of.
use Rattle.std.proofs.Common.{◌≡◌, ℕ, List, [], ◌∷◌, ◌++◌, length, refl, arith}
use Rattle.wire.specs.Octets.{octets}
use Rattle.wire.specs.Addr.{address}
use Rattle.wire.specs.declared.ip_udp.addr.Tunnel.{Tunnel}
use Rattle.wire.specs.declared.ip_udp.addr.Tunnel.TheVariants.{Vxlan, Geneve}
use Rattle.capture_compare.specs.Key.{counted, mark}
use Rattle.capture_compare.specs.CarriedLaws.{KeyTells, KeyTellsApart}
use Rattle.capture_compare.specs.Tunnelled.{Tunnelled}

heads : (x y : ℕ) (xs ys : List ℕ) → x ∷ xs ≡ y ∷ ys → (x ≡ y) × (xs ≡ ys)
heads x y xs ys e = (cc, cc)

-- texts of one length in front of others
fronts : (a b x y : List ℕ) → length a ≡ length b → a ++ x ≡ b ++ y → (a ≡ b) × (x ≡ y)
fronts [] [] x y l e = (refl, e)
fronts [] (d ∷ b) x y l e = absurd (omega (arith, l))
fronts (c ∷ a) [] x y l e = absurd (omega (arith, l))
fronts (c ∷ a) (d ∷ b) x y l e =
    let h = heads c d (a ++ x) (b ++ y) e in
    let t = fronts a b x y (omega (arith, l)) h.1 in
    (same c d a b h.0 t.0, t.1)
  where
    same : (c d : ℕ) (a b : List ℕ) → c ≡ d → a ≡ b → c ∷ a ≡ d ∷ b
    same c d a b e f = cc

-- and texts behind their lengths
parts : (a b x y : List ℕ) → counted a ++ x ≡ counted b ++ y → (a ≡ b) × (x ≡ y)
parts a b x y e =
    let h = heads (length a) (length b) (a ++ x) (b ++ y) e in
    fronts a b x y h.0 h.1

three : (n : ℕ) → length (octets 3 n) ≡ 3
three n = refl

kinds : (s t : Tunnel) → mark s ≡ mark t → s ≡ t
kinds Vxlan Vxlan e = refl
kinds Vxlan Geneve e = absurd (omega (arith, e))
kinds Geneve Vxlan e = absurd (omega (arith, e))
kinds Geneve Geneve e = refl

-- what stands in a key behind its first parts
abbrev behind_destination : Tunnelled → List ℕ
behind_destination t = octets 3 t.vni ++ (counted t.options ++ t.inner)

abbrev behind_source : Tunnelled → List ℕ
behind_source t = counted (address t.destination) ++ behind_destination t

abbrev behind_mark : Tunnelled → List ℕ
behind_mark t = counted (address t.source) ++ behind_source t

pub key-tells : KeyTells
key-tells s t e =
    let a = heads (mark s.kind) (mark t.kind) (behind_mark s) (behind_mark t) e in
    let b = parts (address s.source) (address t.source) (behind_source s) (behind_source t) a.1 in
    let c = parts (address s.destination) (address t.destination) (behind_destination s) (behind_destination t) b.1 in
    let d = fronts (octets 3 s.vni) (octets 3 t.vni) (counted s.options ++ s.inner) (counted t.options ++ t.inner) (omega (arith, three s.vni, three t.vni)) c.1 in
    let f = parts s.options t.options s.inner t.inner d.1 in
    record { kind_is = kinds s.kind t.kind a.0; source_is = b.0; destination_is = c.0; vni_is = d.0; options_are = f.0; inner_is = f.1 }

marked : (k : Tunnel) → mark k ≡ 0 → ⊥
marked Vxlan e = absurd (omega (arith, e))
marked Geneve e = absurd (omega (arith, e))

pub key-tells-apart : KeyTellsApart
key-tells-apart t b e = marked t.kind (heads (mark t.kind) 0 (behind_mark t) b e).0
