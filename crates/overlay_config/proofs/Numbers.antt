-- Lists of numbers of ports without repeats.
use Rattle.std.proofs.Common.{◌≡◌, ℕ, ◌≤◌, ◌<◌, ◌++◌, ◌∷◌, [], ◌∙◌, Bool, true, false, ◌||◌, eqb, List, length, refl, sym, ap, arith, length-append}
use Rattle.std.specs.Prelude.{nat_eq}
use Rattle.std.specs.List.{IsDistinct}
use Rattle.std.proofs.lemmas.Bool.{eqb-true, false≢true, false_from_ne_true}
use Rattle.std.proofs.lemmas.List.Folds.{list_any-append}
use Rattle.std.proofs.lemmas.Map.Keys.{IsDistinct-push}
use Rattle.std.proofs.lemmas.Map.Steps.{length-le_from_distinct_below}
use Rattle.std.specs.Cmp.{nat_eq_equiv}
use Rattle.overlay.specs.Settings.{is_member}
use Rattle.overlay_config.specs.Members.{ArePortNumbers}

pub no_numbers : ArePortNumbers []
unfolding IsDistinct
no_numbers = (tt, λ port h. absurd (false≢true h))

pub one_more : (members : List ℕ) (port : ℕ) → ArePortNumbers members → 1 ≤ port → port ≤ 255 → is_member members port ≡ false → ArePortNumbers (members ++ port ∷ [])
one_more members port are low high new =
    (IsDistinct-push nat_eq_equiv members port are.0 new, λ q h. by q (sym (list_any-append (nat_eq q) members (port ∷ [])) ∙ h) (is_member members q) refl)
  where
    by : (q : ℕ) → (is_member members q || (eqb q port || false)) ≡ true → (b : Bool) → is_member members q ≡ b → (1 ≤ q) × (q ≤ 255)
    by q h true there = are.1 q there
    by q h false absent = last (eqb q port) refl (sym (ap (λ (b : Bool). b || (eqb q port || false)) absent) ∙ h)
      where
        last : (b : Bool) → eqb q port ≡ b → (eqb q port || false) ≡ true → (1 ≤ q) × (q ≤ 255)
        last true same h = let is : q ≡ port = eqb-true q port same in (omega (arith, is, low), omega (arith, is, high))
        last false differs h = absurd (false≢true (sym (ap (λ (b : Bool). b || false) differs) ∙ h))

-- one that isn't on the list leaves room on it for one more
pub has_room : (members : List ℕ) (port : ℕ) → ArePortNumbers members → 1 ≤ port → port ≤ 255 → is_member members port ≡ false → length members < 255
has_room members port are low high new =
    let short = length-le_from_distinct_below (more ++ 0 ∷ []) 256 (IsDistinct-push nat_eq_equiv more 0 all.0 no_zero) (λ q h. below q (sym (list_any-append (nat_eq q) more (0 ∷ [])) ∙ h) (is_member more q) refl) in
    omega (arith, short, length-append more (0 ∷ []), length-append members (port ∷ []))
  where
    more : List ℕ
    more = members ++ port ∷ []

    all : ArePortNumbers more
    all = one_more members port are low high new

    no_zero : is_member more 0 ≡ false
    no_zero = false_from_ne_true (is_member more 0) (λ h. absurd (omega (arith, (all.1 0 h).0)))

    below : (q : ℕ) → (is_member more q || (eqb q 0 || false)) ≡ true → (b : Bool) → is_member more q ≡ b → q < 256
    below q h true there = omega (arith, (all.1 q there).1)
    below q h false absent = last (eqb q 0) refl (sym (ap (λ (b : Bool). b || (eqb q 0 || false)) absent) ∙ h)
      where
        last : (b : Bool) → eqb q 0 ≡ b → (eqb q 0 || false) ≡ true → q < 256
        last true same h = omega (arith, eqb-true q 0 same)
        last false differs h = absurd (false≢true (sym (ap (λ (b : Bool). b || false) differs) ∙ h))
