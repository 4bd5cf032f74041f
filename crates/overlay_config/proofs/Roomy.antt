-- Room for a flood list that is being filled.
use Rattle.std.proofs.Common.{◌≡◌, ℕ, Bool, true, false, not, eqb, ◌||◌, nat_le, nat_lt, length, Option, Some, None, refl, ap, ◌∙◌, arith}
use Rattle.std.specs.Prelude.{is_some, ◌==◌}
use Rattle.std.proofs.lemmas.Bool.{ltb-true, eqb-true, false_from_ne_true}
use Rattle.overlay.specs.Flood.{Entries, is_wide, has_room}
use Rattle.overlay_config.specs.Flood.{is_roomy}

not_sixteen : (n : ℕ) → nat_lt 16 n ≡ true → not (n == 16) ≡ true
not_sixteen n wide = ap not (false_from_ne_true (eqb n 16) (λ same. let is : n ≡ 16 = eqb-true n 16 same in omega (arith, ltb-true 16 n wide, is)))

last_true : (a : Bool) → (a || true) ≡ true
last_true true = refl
last_true false = refl

-- a list that is filled without memory takes one remote more without memory
pub takes_one : (most : ℕ) (flood : Entries) (room : Option ℕ) → is_roomy most flood room ≡ true → has_room most flood room ≡ true
takes_one most flood room roomy = by (nat_le most 16) room roomy
  where
    by : (few : Bool) (room : Option ℕ) → (few || (is_some room || is_wide flood)) ≡ true → (few || (not (length flood == 16) || is_some room)) ≡ true
    by true room h = refl
    by false (Some n) h = last_true (not (length flood == 16))
    by false None h = ap (λ b. b || false) (not_sixteen (length flood) h)

-- and it has room as before then
pub keeps_room : (most : ℕ) (flood longer : Entries) (room left : Option ℕ) → (is_some left || is_wide longer) ≡ (is_some room || is_wide flood) → is_roomy most flood room ≡ true → is_roomy most longer left ≡ true
keeps_room most flood longer room left kept roomy = ap (λ b. nat_le most 16 || b) kept ∙ roomy

-- a room alone is enough
pub room_alone : (most room : ℕ) (flood : Entries) → is_roomy most flood (Some room) ≡ true
room_alone most room flood = last_true (nat_le most 16)
