-- Texts that are the same, word by word.
use Rattle.std.proofs.Common.{◌≡◌, ℕ, zero, suc, ◌+◌, ◌-◌, ◌<◌, ◌≤◌, Bool, ◌&&◌, List, [], ◌∷◌, ◌++◌, length, take, drop, refl, sym, ap, ◌∙◌, arith, length-drop}
use Rattle.std.proofs.lemmas.Bool.{eq-eqb}
use Rattle.std.proofs.Math.Seq.{take-add}
use Rattle.byteorder.specs.Endian.{little_from, little_number}
use Rattle.byteorder.specs.Numbers.{little_from-cons, little_from-take}
use Rattle.wire.specs.Octets.{IsText, is_same}
use Rattle.wire.proofs.OctetsLemmas.{IsText-drop}

-- octets whose number is the same are the same
words-same : (n : ℕ) (a b : List ℕ) → IsText a → IsText b → n ≤ length a → n ≤ length b → little_from 0 n a ≡ little_from 0 n b → take n a ≡ take n b
words-same zero a b p q l m e = refl
words-same (suc n) [] b p q l m e = absurd (omega (arith, l))
words-same (suc n) (x ∷ a) [] p q l m e = absurd (omega (arith, m))
words-same (suc n) (x ∷ a) (y ∷ b) p q l m e =
    let u = little_from-cons 0 n x a in
    let v = little_from-cons 0 n y b in
    let px : x < 256 = p 0 in
    let py : y < 256 = q 0 in
    let first : x ≡ y = omega (arith, e, u, v, px, py) in
    let rest : little_from 0 n a ≡ little_from 0 n b = omega (arith, e, u, v, px, py) in
    ap (λ (h : ℕ). h ∷ take n a) first
    ∙ ap (λ (t : List ℕ). y ∷ t) (words-same n a b (λ i. p (suc i)) (λ i. q (suc i)) (omega (arith, l)) (omega (arith, m)) rest)

-- one word more is the same
pub more-same : (at : ℕ) (a b : List ℕ) → IsText a → IsText b → length a ≡ length b → at + 8 ≤ length a → take at a ≡ take at b
    → little_number 8 (take (length a - at) (drop at a)) ≡ little_number 8 (take (length b - at) (drop at b)) → take (at + 8) a ≡ take (at + 8) b
more-same at a b p q lengths there front e =
    let la = length-drop at a in
    let lb = length-drop at b in
    let one = little_from-take 0 8 (length a - at) (drop at a) (omega (arith, there)) in
    let other = little_from-take 0 8 (length b - at) (drop at b) (omega (arith, there, lengths)) in
    let word = words-same 8 (drop at a) (drop at b) (IsText-drop at a p) (IsText-drop at b q) (omega (arith, la, there)) (omega (arith, lb, there, lengths)) (sym one ∙ e ∙ other) in
    take-add at 8 a ∙ ap (λ (l : List ℕ). l ++ take 8 (drop at a)) front ∙ ap (λ (l : List ℕ). take at b ++ l) word ∙ sym (take-add at 8 b)

-- texts that are the same up to a place are the same where the rest is
pub same-behind : (at : ℕ) (a b : List ℕ) → length a ≡ length b → take at a ≡ take at b → is_same (drop at a) (drop at b) ≡ is_same a b
same-behind zero a b l e = refl
same-behind (suc n) [] [] l e = refl
same-behind (suc n) [] (y ∷ b) l e = absurd (omega (arith, l))
same-behind (suc n) (x ∷ a) [] l e = absurd (omega (arith, l))
same-behind (suc n) (x ∷ a) (y ∷ b) l e =
    let first : x ≡ y = cc in
    let rest : take n a ≡ take n b = cc in
    same-behind n a b (omega (arith, l)) rest ∙ sym (ap (λ (q : Bool). q && is_same a b) (eq-eqb x y first))
