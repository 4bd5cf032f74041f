-- A key is read as what it is the key of.
use Rattle.std.proofs.Common.{◌≡◌, ◌≢◌, ◌∙◌, refl, ap, ap₂, ℕ, ◌≤◌, List, [], ◌∷◌, ◌++◌, length, take, drop, Option, Some, length-append, arith}
use Rattle.std.proofs.lemmas.Bool.{cond-true, cond-false, eq-eqb, ne_eqb, le-leb}
use Rattle.byteorder.specs.Numbers.{big_number-reads_back}
use Rattle.wire.specs.Octets.{octets}
use Rattle.wire.specs.Vxlan.{IsVni}
use Rattle.wire.specs.Addr.{IsAddr, address}
use Rattle.wire.specs.declared.ip_udp.addr.Addr.{Addr}
use Rattle.wire.specs.declared.ip_udp.addr.Addr.TheVariants.{V4, V6}
use Rattle.wire.specs.declared.ip_udp.addr.Tunnel.{Tunnel}
use Rattle.wire.specs.declared.ip_udp.addr.Tunnel.TheVariants.{Vxlan, Geneve}
use Rattle.capture_compare.specs.Key.{counted, mark}
use Rattle.capture_compare.specs.Tunnelled.{Tunnelled}
use Rattle.capture_compare.specs.KeyRead.{addr_by, addr_in, addr_of, addr_split, counted_split, kind_by, read_by, vni_split, with_destination, with_options, with_source, with_vni}
use Rattle.capture_compare.specs.LonelyLaws.{KeyIsRead, OthersAreNot}

front-of : (a b : List ℕ) → take (length a) (a ++ b) ≡ a
front-of [] b = refl
front-of (c ∷ a) b = ap (λ (l : List ℕ). c ∷ l) (front-of a b)

behind-of : (a b : List ℕ) → drop (length a) (a ++ b) ≡ b
behind-of [] b = refl
behind-of (c ∷ a) b = behind-of a b

counted-back : (a b : List ℕ) → counted_split (counted a ++ b) ≡ Some (a, b)
counted-back a b =
    cond-true _ _ _ (le-leb (length a) (length (a ++ b)) (omega (arith, length-append a b)))
    ∙ ap₂ (λ (x y : List ℕ). Some (x, y)) (front-of a b) (behind-of a b)

addr-by-back : (a : Addr) → IsAddr a → addr_by (address a) ≡ Some a
addr-by-back (V4 b) is = cond-true _ _ _ (eq-eqb (length b) 4 is.0)
addr-by-back (V6 b) is = cond-false _ _ _ (ne_eqb (length b) 4 other) ∙ cond-true _ _ _ (eq-eqb (length b) 16 is.0)
  where
    other : length b ≢ 4
    other e = omega (arith, e, is.0)

addr-back : (a : Addr) (rest : List ℕ) → IsAddr a → addr_split (counted (address a) ++ rest) ≡ Some (a, rest)
addr-back a rest is = ap addr_of (counted-back (address a) rest) ∙ ap (λ (o : Option Addr). addr_in o rest) (addr-by-back a is)

vni-back : (n : ℕ) (rest : List ℕ) → IsVni n → vni_split (octets 3 n ++ rest) ≡ Some (n, rest)
vni-back n rest fits =
    cond-true _ _ _ (le-leb 3 (length (octets 3 n ++ rest)) (omega (arith, length-append (octets 3 n) rest, three n)))
    ∙ ap {B = Option (ℕ × List ℕ)} (λ (x : ℕ). Some (x, rest)) (big_number-reads_back 3 n [] fits)
  where
    three : (n : ℕ) → length (octets 3 n) ≡ 3
    three n = refl

kind-back : (k : Tunnel) → kind_by (mark k) ≡ Some k
kind-back Vxlan = refl
kind-back Geneve = refl

options-back : (t : Tunnelled) → length t.options ≤ 252 → with_options t.kind t.source t.destination t.vni (Some (t.options, t.inner)) ≡ Some t
options-back t few = cond-true _ _ _ (le-leb (length t.options) 252 few)

pub key-is-read : KeyIsRead
key-is-read t can =
    ap (λ (o : Option Tunnel). read_by o (counted (address t.source) ++ (counted (address t.destination) ++ (octets 3 t.vni ++ (counted t.options ++ t.inner))))) (kind-back t.kind)
    ∙ ap (with_source t.kind) (addr-back t.source (counted (address t.destination) ++ (octets 3 t.vni ++ (counted t.options ++ t.inner))) can.source)
    ∙ ap (with_destination t.kind t.source) (addr-back t.destination (octets 3 t.vni ++ (counted t.options ++ t.inner)) can.destination)
    ∙ ap (with_vni t.kind t.source t.destination) (vni-back t.vni (counted t.options ++ t.inner) can.vni)
    ∙ ap (with_options t.kind t.source t.destination t.vni) (counted-back t.options t.inner)
    ∙ options-back t can.options

pub others-are-not : OthersAreNot
others-are-not b = refl
