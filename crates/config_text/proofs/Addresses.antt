-- What the texts of addresses tell has as many octets as an address has.
use Rattle.std.proofs.Common.{◌≡◌, ℕ, zero, suc, ◌+◌, ◌-◌, ◌*◌, ◌^◌, ◌≤◌, ◌<◌, ◌/◌, ◌%◌, Bool, true, false, cond, List, [], ◌∷◌, ◌++◌, length, replicate, Option, Some, None, option_map, option_and_then, refl, sym, ap, ◌∙◌, subst, arith}
use Rattle.std.specs.Prelude.{◌==◌, nat_le, nat_lt}
use Rattle.std.specs.Int.{w16, to_be_bytes}
use Rattle.std.specs.List.{AllByRecursion, flat_map}
use Rattle.std.proofs.lemmas.Bool.{leb-true, ltb-true, eqb-true}
use Rattle.std.proofs.lemmas.List.{length-append, length-replicate}
use Rattle.wire.specs.Octets.{IsText}
use Rattle.wire.specs.declared.ip_udp.addr.Addr.{Addr}
use Rattle.wire.specs.declared.ip_udp.addr.Addr.TheVariants.{V4, V6}
use Rattle.wire.specs.Addr.{IsAddr}
use Rattle.config_text.proofs.Steps.{same_Some, map_some}
pub use Rattle.config_text.proofs.Steps.{kept_some, then_some}
use Rattle.config_text.specs.Address.{kept_if, exactly, cut, parts_in, joined, decimal_octet, has_leading_zero, number_of, decimal_digit, hex_pair, groups, side, filled, halves, ip6_groups, mac_of, ip4_of, ip6_of, or_else, addr_of}

-- ---- parts with a separator between them

module _ {A : Type 0} (P : A → Type 0) (part : List ℕ → Option A) (meets : (t : List ℕ) (x : A) → part t ≡ Some x → P x) where
  parts_all : (more : List ℕ → Option (List A)) (t : List ℕ) (o : Option (List ℕ × List ℕ)) (xs : List A) → ((u : List ℕ) (ys : List A) → more u ≡ Some ys → AllByRecursion P ys) → parts_in part more t o ≡ Some xs → AllByRecursion P xs
  parts_all more t None xs rest e =
      let a = map_some (λ x. x ∷ []) (part t) xs e in
      subst (AllByRecursion P) a.2 (meets t a.0 a.1, tt)
  parts_all more t (Some h) xs rest e =
      let a = then_some (λ x. option_map (λ ys. x ∷ ys) (more h.1)) (part h.0) xs e in
      let b = map_some (λ ys. a.0 ∷ ys) (more h.1) xs a.2 in
      subst (AllByRecursion P) b.2 (meets h.0 a.0 a.1, rest h.1 b.0 b.1)

  joined_all : (separator n : ℕ) (t : List ℕ) (xs : List A) → joined part separator n t ≡ Some xs → AllByRecursion P xs
  unfolding joined
  joined_all separator zero t xs e = absurd cc
  joined_all separator (suc n) t xs e = parts_all (joined part separator n) t (cut separator t) xs (λ u ys h. joined_all separator n u ys h) e

exactly_length : {A : Type 0} (n : ℕ) (o : Option (List A)) (xs : List A) → exactly n o ≡ Some xs → (o ≡ Some xs) × (length xs ≡ n)
exactly_length n o xs e = let k = kept_some (λ x. length x == n) o xs e in (k.0, eqb-true (length xs) n k.1)

-- ---- octets

AreOctets : List ℕ → Type 0
AreOctets xs = AllByRecursion (λ x. x < 256) xs

text_of : (xs : List ℕ) → AreOctets xs → IsText xs
unfolding AreOctets
text_of [] h i = none
  where
    none : 0 < 256
    none = omega arith
text_of (x ∷ xs) h zero = h.0
text_of (x ∷ xs) h (suc i) = text_of xs h.1 i

octet_below : (t : List ℕ) (x : ℕ) → decimal_octet t ≡ Some x → x < 256
octet_below t x e = by (has_leading_zero t) e
  where
    below : x ≤ 255 → x < 256
    below h = omega arith

    by : (b : Bool) → cond b None (kept_if (λ n. nat_le n 255) (number_of 10 decimal_digit 1 3 t)) ≡ Some x → x < 256
    by true h = absurd cc
    by false h = below (leb-true x 255 (kept_some (λ n. nat_le n 255) (number_of 10 decimal_digit 1 3 t) x h).1)

pub mac_length : (t x : List ℕ) → mac_of t ≡ Some x → length x ≡ 6
unfolding mac_of
mac_length t x e = (exactly_length 6 (joined hex_pair 58 8 t) x e).1

pub ip4_is : (t x : List ℕ) → ip4_of t ≡ Some x → IsAddr (V4 x)
unfolding ip4_of AreOctets
ip4_is t x e =
    let a = exactly_length 4 (joined decimal_octet 46 8 t) x e in
    (a.1, text_of x (joined_all (λ n. n < 256) decimal_octet octet_below 46 8 t x a.0))

remainder_below : (n : ℕ) → n % 256 < 256
remainder_below n = omega arith

-- each group is two octets
record AreTwice (gs bytes : List ℕ) : Type 0 where
  count : length bytes ≡ 2 * length gs
  octets : AreOctets bytes

pairs_of : (gs : List ℕ) → AreTwice gs (flat_map (to_be_bytes w16) gs)
unfolding AreOctets
pairs_of [] = record { count = refl; octets = tt }
pairs_of (g ∷ gs) = record { count = twice _ _ (pairs_of gs).count; octets = (remainder_below (g / 256 ^ 1), (remainder_below g, (pairs_of gs).octets)) }
  where
    twice : (m n : ℕ) → m ≡ 2 * n → suc (suc m) ≡ 2 * suc n
    twice m n h = omega arith

filled_length : (front back gs : List ℕ) → filled front back ≡ Some gs → length gs ≡ 8
filled_length front back gs e = by (nat_lt (length front + length back) 8) (ltb-true (length front + length back) 8) e
  where
    by : (b : Bool) → (b ≡ true → length front + length back < 8) → cond b (Some (front ++ replicate (8 - (length front + length back)) 0 ++ back)) None ≡ Some gs → length gs ≡ 8
    by true few h =
        let same : front ++ replicate (8 - (length front + length back)) 0 ++ back ≡ gs = same_Some _ gs h in
        let room = few refl in
        ap length (sym same)
        ∙ omega (
          arith,
          room,
          length-append (front ++ replicate (8 - (length front + length back)) 0) back,
          length-append front (replicate (8 - (length front + length back)) 0),
          length-replicate {A = ℕ} (8 - (length front + length back)) 0,
        )
    by false few h = absurd cc

groups_length : (t : List ℕ) (o : Option (List ℕ × List ℕ)) (gs : List ℕ) → ip6_groups t o ≡ Some gs → length gs ≡ 8
groups_length t None gs e = (exactly_length 8 (groups t) gs e).1
groups_length t (Some h) gs e =
    let a = then_some (λ front. option_and_then (filled front) (side h.1)) (side h.0) gs e in
    let b = then_some (filled a.0) (side h.1) gs a.2 in
    filled_length a.0 b.0 gs b.2

pub ip6_is : (t x : List ℕ) → ip6_of t ≡ Some x → IsAddr (V6 x)
unfolding ip6_of
ip6_is t x e =
    let a = map_some (flat_map (to_be_bytes w16)) (ip6_groups t (halves t)) x e in
    let p = pairs_of a.0 in
    subst (λ (y : List ℕ). IsAddr (V6 y)) a.2 (p.count ∙ ap (λ (n : ℕ). 2 * n) (groups_length t (halves t) a.0 a.1), text_of (flat_map (to_be_bytes w16) a.0) p.octets)

pub addr_is : (t : List ℕ) (a : Addr) → addr_of t ≡ Some a → IsAddr a
unfolding addr_of
addr_is t a e = by (ip4_of t) refl e
  where
    by : (o : Option (List ℕ)) → ip4_of t ≡ o → or_else (option_map V4 o) (option_map V6 (ip6_of t)) ≡ Some a → IsAddr a
    by (Some b) is h = subst IsAddr (same_Some (V4 b) a h) (ip4_is t b is)
    by None is h = let m = map_some V6 (ip6_of t) a h in subst IsAddr m.2 (ip6_is t m.0 m.1)
