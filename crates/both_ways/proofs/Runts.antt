-- Texts that are too short for a type.
use Rattle.std.proofs.Common.{◌≡◌, ℕ, ◌<◌, ◌&&◌, Bool, true, false, nat_eq, List, [], ◌∷◌, None, length, drop, refl, arith, length-drop}
use Rattle.both_ways.specs.Told.{outer_source, typed_source}
use Rattle.wire.specs.Octets.{begins}
use Rattle.wire.specs.Tag.{without_tags}

and_false : (q : Bool) → (q && false) ≡ false
and_false true = refl
and_false false = refl

too_short : (x y : ℕ) (t : List ℕ) → length t < 2 → begins (x ∷ y ∷ []) t ≡ false
too_short x y [] h = refl
too_short x y (a ∷ []) h = and_false (nat_eq x a)
too_short x y (a ∷ b ∷ t) h = absurd (omega (arith, h))

-- so there is no tag, and no type of IP
untagged : (t : List ℕ) → length t < 2 → without_tags 2 t ≡ t
untagged t h = rw (too_short 0x81 0x00 t h, too_short 0x88 0xA8 t h) refl

untyped : (t : List ℕ) → length t < 2 → typed_source t ≡ None
untyped t h = rw (too_short 0x08 0x00 t h, too_short 0x86 0xDD t h) refl

pub runt_source : (b : List ℕ) → length b < 14 → outer_source b ≡ None
runt_source b h =
    let few : length (drop 12 b) < 2 = omega (arith, length-drop 12 b) in
    rw (untagged (drop 12 b) few) (untyped (drop 12 b) few)
