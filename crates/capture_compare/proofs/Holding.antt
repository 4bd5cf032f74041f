-- Records that are held, and how many octets they have together.
use Rattle.std.proofs.Common.{◌≡◌, refl, ap, ℕ, zero, suc, ◌+◌, ◌<◌, ◌≤◌, nat_le, nat_lt, ◌&&◌, Bool, true, false, List, [], ◌∷◌, ◌++◌, length, get_or, drop, arith}
use Rattle.std.proofs.lemmas.Bool.{leb-true}
use Rattle.std.specs.List.{remove}
use Rattle.capture_compare.specs.Near.{Alone, has_room, is_first_before, octets_in, since}

pub octets-append : (held bs : List Alone) → octets_in (held ++ bs) ≡ octets_in held + octets_in bs
octets-append [] bs = omega arith
octets-append (a ∷ held) bs = omega (arith, octets-append held bs)

pub octets-remove : (held : List Alone) (i : ℕ) (d : Alone) → i < length held → octets_in (remove held i) + length (get_or held i d).seen.octets ≡ octets_in held
octets-remove [] i d h = absurd (omega (arith, h))
octets-remove (a ∷ held) zero d h = omega arith
octets-remove (a ∷ held) (suc i) d h = omega (arith, octets-remove held i d (omega (arith, h)))

-- while the first one is earlier it goes
pub since-drops : (moment : ℕ) (held : List Alone) → is_first_before moment held ≡ true → since moment (drop 1 held) ≡ since moment held
since-drops moment [] h = absurd cc
since-drops moment (a ∷ held) h = rw h refl

pub since-stays : (moment : ℕ) (held : List Alone) → is_first_before moment held ≡ false → since moment held ≡ held
since-stays moment [] h = refl
since-stays moment (a ∷ held) h = rw h refl

pub some-first : (moment : ℕ) (held : List Alone) → is_first_before moment held ≡ true → 0 < length held
some-first moment [] h = absurd cc
some-first moment (a ∷ held) h = omega arith

-- with one more behind them
pub held-more : (held new : List Alone) (a : Alone) (octets more : ℕ) → octets ≡ octets_in held → new ≡ held ++ a ∷ [] → length a.seen.octets ≡ more → octets + more ≡ octets_in new
held-more held new a octets more h is n = omega (arith, h, n, octets-append held (a ∷ []), ap octets_in is)

pub room-fits : (more : ℕ) (held : List Alone) → has_room more held ≡ true → octets_in held + more ≤ 268435456
room-fits more held h = leb-true (octets_in held + more) 268435456 (second (nat_lt (length held) 1048576) (nat_le (octets_in held + more) 268435456) h)
  where
    second : (p q : Bool) → (p && q) ≡ true → q ≡ true
    second true q h = h
    second false q h = absurd cc

-- without the one at an index
pub held-less : (held new : List Alone) (i : ℕ) (a : Alone) (octets n : ℕ) → octets ≡ octets_in held → i < length held → a ≡ get_or held i a → new ≡ remove held i → n ≡ length a.seen.octets
    → octets_in new + n ≡ octets
held-less held new i a octets n h lt at is count =
    omega (arith, h, count, octets-remove held i a lt, ap octets_in is, ap (λ (x : Alone). length x.seen.octets) at)
