-- Laws of folded sums.
use Rattle.std.proofs.Common.{◌≡◌, ℕ, zero, suc, ◌+◌, ◌-◌, ◌*◌, ◌^◌, ◌/◌, ◌≤◌, Bool, true, false, List, [], ◌∷◌, length, take, drop, refl, sym, ap, ◌∙◌, arith}
use Rattle.std.specs.Int.{from_bool}
use Rattle.std.proofs.lemmas.List.{take_rest, drop-drop}
use Rattle.byteorder.specs.Endian.{little_from}
use Rattle.wire.specs.Sum.{total, folded}

-- two sums that differ by multiples of 65535 fold to the same, where both or neither is 0
pub folded-same : (x y j k : ℕ) → x + 65535 * j ≡ y + 65535 * k → (x ≡ 0 → y ≡ 0) → (y ≡ 0 → x ≡ 0) → folded x ≡ folded y
folded-same zero zero j k e f g = refl
folded-same zero (suc y) j k e f g = absurd (let h : suc y ≡ 0 = f refl in omega (arith, h))
folded-same (suc x) zero j k e f g = absurd (let h : suc x ≡ 0 = g refl in omega (arith, h))
folded-same (suc x) (suc y) j k e f g = omega (arith, e)

-- how often 65535 goes out of a sum that is folded
abbrev pub carried : ℕ → ℕ
carried x = (x - 1) / 65535

pub folded-carried : (x : ℕ) → x ≡ folded x + 65535 * carried x
folded-carried zero = refl
folded-carried (suc x) = omega arith

-- a sum may be folded before it is multiplied by 256 and something is added
pub folded-swapped : (x t : ℕ) → folded (256 * folded x + t) ≡ folded (256 * x + t)
folded-swapped x t =
    let e = folded-carried x in
    folded-same (256 * folded x + t) (256 * x + t) (256 * carried x) 0 (omega (arith, e)) (λ z. omega (arith, e, z)) (λ z. omega (arith, e, z))

-- how often 65535 stands in the difference between 256 times a word of 8 octets, the low one first, and their sum
abbrev pub surplus : (b c d e f g h : ℕ) → ℕ
surplus b c d e f g h = b + 256 * c + 65537 * d + 16777472 * e + 4295032833 * f + 1099528405248 * g + 281479271743489 * h

-- 8 octets are taken from a text and added, the low one first, to a sum of words with swapped octets
pub folded-word8 : (t : List ℕ) (s : ℕ) → 8 ≤ length t → folded (256 * (s + little_from 0 8 t) + total (drop 8 t)) ≡ folded (256 * s + total t)
folded-word8 [] s h = absurd (omega (arith, h))
folded-word8 (a ∷ []) s h = absurd (omega (arith, h))
folded-word8 (a ∷ b ∷ []) s h = absurd (omega (arith, h))
folded-word8 (a ∷ b ∷ c ∷ []) s h = absurd (omega (arith, h))
folded-word8 (a ∷ b ∷ c ∷ d ∷ []) s h = absurd (omega (arith, h))
folded-word8 (a ∷ b ∷ c ∷ d ∷ e ∷ []) s h = absurd (omega (arith, h))
folded-word8 (a ∷ b ∷ c ∷ d ∷ e ∷ f ∷ []) s h = absurd (omega (arith, h))
folded-word8 (a ∷ b ∷ c ∷ d ∷ e ∷ f ∷ g ∷ []) s h = absurd (omega (arith, h))
folded-word8 (a ∷ b ∷ c ∷ d ∷ e ∷ f ∷ g ∷ i ∷ t) s h =
    let word = a + 256 * (b + 256 * (c + 256 * (d + 256 * (e + 256 * (f + 256 * (g + 256 * (i + 0))))))) in
    let sum = 256 * a + b + (256 * c + d + (256 * e + f + (256 * g + i + total t))) in
    folded-same (256 * (s + word) + total t) (256 * s + sum) 0 (surplus b c d e f g i) (omega arith) (λ z. omega (arith, z)) (λ z. omega (arith, z))

-- an addend may be folded first
pub folded-added : (a t : ℕ) → folded (a + folded t) ≡ folded (a + t)
folded-added a t =
    let e = folded-carried t in
    folded-same (a + folded t) (a + t) (carried t) 0 (omega (arith, e)) (λ z. omega (arith, e, z)) (λ z. omega (arith, e, z))

-- what folds to the same still does with one more addend
pub folded-more : (a x y : ℕ) → folded x ≡ folded y → folded (a + x) ≡ folded (a + y)
folded-more a x y same = sym (folded-added a x) ∙ ap (λ (n : ℕ). folded (a + n)) same ∙ folded-added a y

-- a carry out of 64 bits is 65535 times this number and the carry itself
pub carry-word : (b : Bool) → from_bool b * 2 ^ 64 ≡ from_bool b + 65535 * (281479271743489 * from_bool b)
carry-word true = refl
carry-word false = refl

-- a carry out of 64 bits may be added at the lowest place
pub folded-carry : (a b m x t : ℕ) → m ≡ 281479271743489 * b → a + (b + 65535 * m) ≡ x → folded (256 * (a + b) + t) ≡ folded (256 * x + t)
folded-carry a b m x t many is = folded-same (256 * (a + b) + t) (256 * x + t) (256 * m) 0 (omega (arith, is)) (λ z. omega (arith, z, many, is)) (λ z. omega (arith, z, is))

-- one step over a text, whose carry is added to the carries so far
pub folded-step : (sum carries next carry rest behind : ℕ) → folded (256 * (next + carry) + behind) ≡ folded (256 * sum + rest) → folded (256 * (next + (carries + carry)) + behind) ≡ folded (256 * (sum + carries) + rest)
folded-step sum carries next carry rest behind same =
    let before : 256 * (next + (carries + carry)) + behind ≡ 256 * carries + (256 * (next + carry) + behind) = omega arith in
    let after : 256 * carries + (256 * sum + rest) ≡ 256 * (sum + carries) + rest = omega arith in
    ap folded before ∙ folded-more (256 * carries) (256 * (next + carry) + behind) (256 * sum + rest) same ∙ ap folded after

-- the sum may be made narrow, and folded with the carries, before its octets are swapped
pub folded-ended : (narrow sum carries rest : ℕ) → folded narrow ≡ folded sum → folded (256 * folded (narrow + carries) + rest) ≡ folded (256 * (sum + carries) + rest)
folded-ended narrow sum carries rest same =
    let first : narrow + carries ≡ carries + narrow = omega arith in
    let last : carries + sum ≡ sum + carries = omega arith in
    ap (λ (n : ℕ). folded (256 * n + rest)) (ap folded first ∙ folded-more carries narrow sum same ∙ ap folded last)
    ∙ folded-swapped (sum + carries) rest

-- a step over n octets of the text behind the first k
pub folded-behind : (n k x y : ℕ) (t : List ℕ) → folded (x + total (drop n (take (length t - k) (drop k t)))) ≡ folded (y + total (take (length t - k) (drop k t))) → folded (x + total (drop (k + n) t)) ≡ folded (y + total (drop k t))
folded-behind n k x y t same =
    ap (λ (l : List ℕ). folded (x + total l)) (sym (ap (drop n) (take_rest t k) ∙ drop-drop n k t))
    ∙ same
    ∙ ap (λ (l : List ℕ). folded (y + total l)) (take_rest t k)

pub carry_small : (b : Bool) → from_bool b ≤ 1
carry_small true = omega arith
carry_small false = omega arith
