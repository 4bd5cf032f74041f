-- Texts that are two others, one behind the other.
use Rattle.std.proofs.Common.{◌≡◌, ℕ, ◌<◌, ◌≤◌, Bool, true, false, ◌&&◌, List, [], ◌∷◌, ◌++◌, length, take, drop, refl, suc, ap, ◌∙◌, arith, nat_eq}
use lib.Pointwise.{pointwise}

both : (a b c : Bool) → (a && (b && c)) ≡ ((a && b) && c)
both true b c = refl
both false b c = refl

neither : (a : Bool) → (a && false) ≡ false
neither true = refl
neither false = refl

pub same_parts : (text front rest : List ℕ) → length front ≤ length text → pointwise nat_eq text (front ++ rest) ≡ (pointwise nat_eq (take (length front) text) front && pointwise nat_eq (drop (length front) text) rest)
same_parts [] [] rest h = refl
same_parts (x ∷ text) [] rest h = refl
same_parts [] (y ∷ front) rest h = absurd (omega (arith, h))
same_parts (x ∷ text) (y ∷ front) rest h = ap (λ q. nat_eq x y && q) (same_parts text front rest (omega (arith, h))) ∙ both (nat_eq x y) _ _

pub too_short : (text front rest : List ℕ) → length text < length front → pointwise nat_eq text (front ++ rest) ≡ false
too_short text [] rest h = absurd (omega (arith, h))
too_short [] (y ∷ front) rest h = refl
too_short (x ∷ text) (y ∷ front) rest h = ap (λ q. nat_eq x y && q) (too_short text front rest (omega (arith, h))) ∙ neither (nat_eq x y)

other_length : (a b : List ℕ) → (length a ≡ length b → ⊥) → pointwise nat_eq a b ≡ false
other_length [] [] h = absurd (h refl)
other_length [] (y ∷ b) h = refl
other_length (x ∷ a) [] h = refl
other_length (x ∷ a) (y ∷ b) h = ap (λ q. nat_eq x y && q) (other_length a b (λ e. h (ap suc e))) ∙ neither (nat_eq x y)

-- whatever else is asked of texts of different lengths
pub never_same : (q : Bool) (a b : List ℕ) → (length a ≡ length b → ⊥) → (q && pointwise nat_eq a b) ≡ false
never_same q a b h = ap (λ s. q && s) (other_length a b h) ∙ neither q
