-- Sums of words with swapped octets.
use Rattle.std.proofs.Common.{◌≡◌, ℕ, zero, suc, ◌+◌, ◌-◌, ◌*◌, ◌%◌, ◌≤◌, ◌<◌, ◌==◌, Bool, true, false, not, List, [], ◌∷◌, length, drop, refl, sym, ap, ◌∙◌, arith}
use Rattle.std.proofs.lemmas.Bool.{eq-eqb, ne_eqb, eqb-true, eqb-false}
use Rattle.byteorder.specs.Endian.{little_from}
use Rattle.wire.specs.Sum.{total, folded}
use Rattle.wire.proofs.FoldLemmas.{folded-same}

-- 4 octets are taken from a text and added, the low one first, to a sum of words with swapped octets
pub folded-word4 : (t : List ℕ) (s : ℕ) → 4 ≤ length t → folded (256 * (s + little_from 0 4 t) + total (drop 4 t)) ≡ folded (256 * s + total t)
folded-word4 [] s h = absurd (omega (arith, h))
folded-word4 (a ∷ []) s h = absurd (omega (arith, h))
folded-word4 (a ∷ b ∷ []) s h = absurd (omega (arith, h))
folded-word4 (a ∷ b ∷ c ∷ []) s h = absurd (omega (arith, h))
folded-word4 (a ∷ b ∷ c ∷ d ∷ t) s h =
    let word = a + 256 * (b + 256 * (c + 256 * (d + 0))) in
    let sum = 256 * a + b + (256 * c + d + total t) in
    folded-same (256 * (s + word) + total t) (256 * s + sum) 0 (b + 256 * c + 65537 * d) (omega arith) (λ z. omega (arith, z)) (λ z. omega (arith, z))

-- two tests whose sides are equal together answer the same
one-answer : (a b c d : ℕ) (t : Bool) → (a == b) ≡ t → (a ≡ b → c ≡ d) → (c ≡ d → a ≡ b) → t ≡ (c == d)
one-answer a b c d true e f g = sym (eq-eqb c d (f (eqb-true a b e)))
one-answer a b c d false e f g = sym (ne_eqb c d (λ same. eqb-false a b e (g same)))

folded-of : (n : ℕ) → 1 ≤ n → folded n ≡ (n - 1) % 65535 + 1
folded-of zero h = absurd (omega (arith, h))
folded-of (suc n) h = omega arith

-- a sum with swapped octets that isn't 0 is all ones exactly where it is a multiple of 65535
pub all-ones : (s : ℕ) → 1 ≤ s → (s % 65535 == 0) ≡ (folded (256 * s) == 65535)
all-ones s some =
    let one : folded (256 * s) ≡ (256 * s - 1) % 65535 + 1 = folded-of (256 * s) (omega (arith, some)) in
    one-answer (s % 65535) 0 (folded (256 * s)) 65535 (s % 65535 == 0) refl (λ e. omega (arith, e, one, some)) (λ e. omega (arith, e, one, some))

-- of a text of whole words nothing is left behind its last one
pub total-none : (t : List ℕ) → length t < 4 → length t % 4 ≡ 0 → total t ≡ 0
total-none [] short whole = refl
total-none (a ∷ t) short whole = absurd (omega (arith, short, whole))

-- what is left behind the last word changes nothing: a sum that isn't 0
pub some-ones : (s r w : ℕ) → 1 ≤ s → r ≡ 0 → folded (256 * s + r) ≡ w → (s % 65535 == 0) ≡ (w == 65535)
some-ones s r w some none same =
    let alone : 256 * s ≡ 256 * s + r = omega (arith, none) in
    all-ones s some ∙ ap (λ (n : ℕ). n == 65535) (ap folded alone ∙ same)

-- and one that is 0
pub none-ones : (s r w : ℕ) → s ≡ 0 → r ≡ 0 → folded (256 * s + r) ≡ w → not (s == 0) ≡ (w == 65535)
none-ones s r w zero_is none same =
    let all : 256 * s + r ≡ 0 = omega (arith, zero_is, none) in
    ap (λ (n : ℕ). not (n == 0)) zero_is ∙ ap (λ (n : ℕ). n == 65535) (sym (ap folded all) ∙ same)
