-- The decimal digits of numbers.
use Rattle.std.proofs.Common.{◌≡◌, ℕ, ◌+◌, ◌^◌, ◌%◌, ◌/◌, ◌<◌, ◌≤◌, List, [], ◌∷◌, ◌++◌, ap, ◌∙◌, arith, append_assoc}
use Rattle.std.proofs.lemmas.Fmt.{decimal_digit, decimal_step}
use Rattle.std.specs.Fmt.{decimal}

-- the two digits of a number below 100
pub decimal_two : (n : ℕ) → 10 ≤ n → n < 100 → decimal n ≡ (48 + n / 10) ∷ (48 + n % 10) ∷ []
decimal_two n h lt =
    decimal_step n h (omega (arith, lt)) ∙ ap (λ (t : List ℕ). t ++ (48 + n % 10) ∷ []) (decimal_digit (n / 10) (omega (arith, lt)))

-- the three digits of a number below 1,000
pub decimal_three : (n : ℕ) → 100 ≤ n → n < 1000 → decimal n ≡ (48 + n / 100) ∷ (48 + n / 10 % 10) ∷ (48 + n % 10) ∷ []
decimal_three n h lt =
    let high : n / 10 / 10 ≡ n / 100 = omega arith in
    decimal_step n (omega (arith, h)) (omega (arith, lt))
    ∙ ap (λ (t : List ℕ). t ++ (48 + n % 10) ∷ []) (decimal_two (n / 10) (omega (arith, h)) (omega (arith, lt)))
    ∙ ap (λ (k : ℕ). (48 + k) ∷ (48 + n / 10 % 10) ∷ (48 + n % 10) ∷ []) high

-- four digits, with zeros in front
abbrev pub four : ℕ → List ℕ
four n = (48 + n / 1000) ∷ (48 + n / 100 % 10) ∷ (48 + n / 10 % 10) ∷ (48 + n % 10) ∷ []

-- the four digits of a number below 10,000
pub decimal_four : (n : ℕ) → 1000 ≤ n → n < 10000 → decimal n ≡ four n
decimal_four n h lt =
    let high : n / 10 / 100 ≡ n / 1000 = omega arith in
    let next : n / 10 / 10 % 10 ≡ n / 100 % 10 = omega arith in
    decimal_step n (omega (arith, h)) (omega (arith, lt))
    ∙ ap (λ (t : List ℕ). t ++ (48 + n % 10) ∷ []) (decimal_three (n / 10) (omega (arith, h)) (omega (arith, lt)))
    ∙ ap (λ (k : ℕ). (48 + k) ∷ (48 + n / 10 / 10 % 10) ∷ (48 + n / 10 % 10) ∷ (48 + n % 10) ∷ []) high
    ∙ ap (λ (k : ℕ). (48 + n / 1000) ∷ (48 + k) ∷ (48 + n / 10 % 10) ∷ (48 + n % 10) ∷ []) next

decimal-tens : (n : ℕ) → 100 ≤ n → n < 2 ^ 64 → decimal n ≡ decimal (n / 100) ++ (48 + n / 10 % 10) ∷ (48 + n % 10) ∷ []
decimal-tens n h f =
    let high : n / 10 / 10 ≡ n / 100 = omega arith in
    decimal_step n (omega (arith, h)) f
    ∙ ap (λ (t : List ℕ). t ++ (48 + n % 10) ∷ []) (decimal_step (n / 10) (omega (arith, h)) (omega (arith, f)))
    ∙ append_assoc (decimal (n / 10 / 10)) ((48 + n / 10 % 10) ∷ []) ((48 + n % 10) ∷ [])
    ∙ ap (λ (k : ℕ). decimal k ++ (48 + n / 10 % 10) ∷ (48 + n % 10) ∷ []) high

-- the last four digits of a number from 10,000 on, behind those in front of them
pub decimal_fours : (n : ℕ) → 10000 ≤ n → n < 2 ^ 64 → decimal n ≡ decimal (n / 10000) ++ four (n % 10000)
decimal_fours n h f =
    let high : n / 100 / 100 ≡ n / 10000 = omega arith in
    let a : n / 100 / 10 % 10 ≡ n % 10000 / 1000 = omega arith in
    let b : n / 100 % 10 ≡ n % 10000 / 100 % 10 = omega arith in
    let d : n / 10 % 10 ≡ n % 10000 / 10 % 10 = omega arith in
    let e : n % 10 ≡ n % 10000 % 10 = omega arith in
    let low = (48 + n / 10 % 10) ∷ (48 + n % 10) ∷ [] in
    decimal-tens n (omega (arith, h)) f
    ∙ ap (λ (t : List ℕ). t ++ low) (decimal-tens (n / 100) (omega (arith, h)) (omega (arith, f)))
    ∙ append_assoc (decimal (n / 100 / 100)) ((48 + n / 100 / 10 % 10) ∷ (48 + n / 100 % 10) ∷ []) low
    ∙ ap (λ (k : ℕ). decimal k ++ (48 + n / 100 / 10 % 10) ∷ (48 + n / 100 % 10) ∷ low) high
    ∙ ap (λ (k : ℕ). decimal (n / 10000) ++ (48 + k) ∷ (48 + n / 100 % 10) ∷ low) a
    ∙ ap (λ (k : ℕ). decimal (n / 10000) ++ (48 + n % 10000 / 1000) ∷ (48 + k) ∷ low) b
    ∙ ap (λ (k : ℕ). decimal (n / 10000) ++ (48 + n % 10000 / 1000) ∷ (48 + n % 10000 / 100 % 10) ∷ (48 + k) ∷ (48 + n % 10) ∷ []) d
    ∙ ap (λ (k : ℕ). decimal (n / 10000) ++ (48 + n % 10000 / 1000) ∷ (48 + n % 10000 / 100 % 10) ∷ (48 + n % 10000 / 10 % 10) ∷ (48 + k) ∷ []) e
