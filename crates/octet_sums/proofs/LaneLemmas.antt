-- Vectors of four words.
use Rattle.std.proofs.Common.{◌≡◌, ℕ, ◌<◌, ◌+◌, ◌-◌, ◌*◌, ◌/◌, ◌%◌, ◌^◌, ◌≤◌, List, [], ◌∷◌, ◌++◌, length, slice_index, get_or, bit_or, bit_xor, map, take, drop, arith, refl, zero, suc, ◌∙◌, add-zero, length-drop}
use Rattle.std.proofs.lemmas.List.{get_or-drop, get_or-take, length-take-le, take-take}
use Rattle.std.proofs.lemmas.Grind.{same_number_lists}
use Rattle.std.proofs.Math.Nat.{div-lt_iff_lt-mul, mod-add-div, pow-suc, pow-zero}
use Rattle.std.specs.Simd.Lanes.{digits_l, number_l, zip2}
use Rattle.std.specs.Int.{w32, rotate_right}
use Rattle.sha2.specs.Sha256.{small_sigma0}
use Rattle.octet_sums.specs.Lanes.{four}

-- what holds of each list of four elements
pub of_four : (P : List ℕ → Type 0) → ((a b c d : ℕ) → P (a ∷ b ∷ c ∷ d ∷ [])) → (xs : List ℕ) → length xs ≡ 4 → P xs
of_four P p (a ∷ b ∷ c ∷ d ∷ []) h = p a b c d
of_four P p [] h = absurd (omega arith)
of_four P p (a ∷ []) h = absurd (omega arith)
of_four P p (a ∷ b ∷ []) h = absurd (omega arith)
of_four P p (a ∷ b ∷ c ∷ []) h = absurd (omega arith)
of_four P p (a ∷ b ∷ c ∷ d ∷ e ∷ xs) h = absurd (omega arith)

-- what holds at each of four places
pub at_four : (P : ℕ → Type 0) → P 0 → P 1 → P 2 → P 3 → (j : ℕ) → j < 4 → P j
at_four P p0 p1 p2 p3 zero h = p0
at_four P p0 p1 p2 p3 (suc zero) h = p1
at_four P p0 p1 p2 p3 (suc (suc zero)) h = p2
at_four P p0 p1 p2 p3 (suc (suc (suc zero))) h = p3
at_four P p0 p1 p2 p3 (suc (suc (suc (suc n)))) h = absurd (omega arith)

-- the four elements from a place on
pub chunk_four : (xs : List ℕ) (t n : ℕ) → t + 4 ≤ length xs → 4 ≤ n → take 4 (take n (drop t xs)) ≡ four xs t
chunk_four xs t n most le =
    let part : List ℕ = drop t xs in
    let long : length (take 4 part) ≡ 4 = length-take-le 4 part (omega (arith, length-drop t xs)) in
    let at : (k : ℕ) → k < 4 → get_or (take 4 part) k 0 ≡ get_or xs (t + k) 0 = λ k less. get_or-take 4 part k 0 less ∙ get_or-drop t xs k 0 in
    take-take 4 n part le
    ∙ same_number_lists (take 4 part) (four xs t) long
    (λ k less. at_four (λ k. get_or (take 4 part) k 0 ≡ get_or (four xs t) k 0)
    (rw add-zero at (at 0 (omega arith))) (at 1 (omega arith)) (at 2 (omega arith)) (at 3 (omega arith)) k (omega arith))

-- two shifts of each lane and an or are a rotation
pub shifts_rotate : (k : ℕ) → 0 < k → k < 32 → (x : List ℕ) → length x ≡ 4
    → zip2 bit_or (zip2 (λ n s. n / 2 ^ s) x (k ∷ k ∷ k ∷ k ∷ [])) (zip2 (λ n s. n * 2 ^ s % 2 ^ 32) x ((32 - k) ∷ (32 - k) ∷ (32 - k) ∷ (32 - k) ∷ []))
    ≡ map (λ n. rotate_right w32 n k) x
shifts_rotate k some less =
    let right : k % 32 ≡ k = omega arith in
    let left : (32 - k) % 32 ≡ 32 - k = omega arith in
    of_four _ (λ a b c d. rw (right, left) refl)

pub sigma0_lanes : (x : List ℕ) → length x ≡ 4
    → zip2 bit_xor (zip2 bit_xor (map (λ n. rotate_right w32 n 7) x) (map (λ n. rotate_right w32 n 18) x)) (zip2 (λ n s. n / 2 ^ s) x (3 ∷ 3 ∷ 3 ∷ 3 ∷ []))
    ≡ map small_sigma0 x
sigma0_lanes = of_four _ (λ a b c d. refl)

-- ---- the same octets in wider and in narrower lanes

number_of_digits : (p n x : ℕ) → 0 < p → x < p ^ n → number_l p (digits_l p n x) ≡ x
number_of_digits p zero x some less = omega (arith, pow-zero p)
number_of_digits p (suc n) x some less =
    rw (number_of_digits p n (x / p) some ((div-lt_iff_lt-mul some).1 (rw (pow-suc p n) at less))) (mod-add-div x p)

pub doubled_lanes : (a b : ℕ) → a < 2 ^ 32 → b < 2 ^ 32
    → digits_l (2 ^ 64) 2 (number_l 256 (digits_l 256 16 (number_l (2 ^ 32) (a ∷ a ∷ b ∷ b ∷ [])))) ≡ (a * 2 ^ 32 + a) ∷ (b * 2 ^ 32 + b) ∷ []
doubled_lanes a b fa fb =
    let n : ℕ = number_l (2 ^ 32) (a ∷ a ∷ b ∷ b ∷ []) in
    let low : n % 2 ^ 64 ≡ a * 2 ^ 32 + a = omega arith in
    let high : n / 2 ^ 64 % 2 ^ 64 ≡ b * 2 ^ 32 + b = omega arith in
    rw (number_of_digits 256 16 n (omega arith) (omega arith), low, high) refl

pub half_lanes : (p q : ℕ) → p < 2 ^ 64 → q < 2 ^ 64
    → digits_l (2 ^ 32) 4 (number_l 256 (digits_l 256 16 (number_l (2 ^ 64) (p ∷ q ∷ []))))
    ≡ p % 2 ^ 32 ∷ p / 2 ^ 32 % 2 ^ 32 ∷ q % 2 ^ 32 ∷ q / 2 ^ 32 % 2 ^ 32 ∷ []
half_lanes p q fp fq =
    let n : ℕ = number_l (2 ^ 64) (p ∷ q ∷ []) in
    let a : n % 2 ^ 32 ≡ p % 2 ^ 32 = omega arith in
    let b : n / 2 ^ 32 % 2 ^ 32 ≡ p / 2 ^ 32 % 2 ^ 32 = omega arith in
    let c : n / 2 ^ 32 / 2 ^ 32 % 2 ^ 32 ≡ q % 2 ^ 32 = omega arith in
    let d : n / 2 ^ 32 / 2 ^ 32 / 2 ^ 32 % 2 ^ 32 ≡ q / 2 ^ 32 % 2 ^ 32 = omega arith in
    rw (number_of_digits 256 16 n (omega arith) (omega arith), a, b, c, d) refl

-- ---- two lanes of four, beside none

abbrev none : List ℕ
none = 0 ∷ 0 ∷ 0 ∷ 0 ∷ []

pub put_first : (s : List ℕ) (p q : ℕ) → length s ≡ 4 → slice_index s 0 ≡ p → slice_index s 2 ≡ q
    → get_or (s ++ none) 0 0 ∷ get_or (s ++ none) 2 0 ∷ get_or (s ++ none) 4 0 ∷ get_or (s ++ none) 5 0 ∷ [] ≡ p ∷ q ∷ 0 ∷ 0 ∷ []
put_first s p q long =
    of_four (λ s. slice_index s 0 ≡ p → slice_index s 2 ≡ q
    → get_or (s ++ none) 0 0 ∷ get_or (s ++ none) 2 0 ∷ get_or (s ++ none) 4 0 ∷ get_or (s ++ none) 5 0 ∷ [] ≡ p ∷ q ∷ 0 ∷ 0 ∷ [])
    (λ a b c d e f. rw (e, f) refl) s long

pub put_last : (s : List ℕ) (p q : ℕ) → length s ≡ 4 → slice_index s 0 ≡ p → slice_index s 2 ≡ q
    → get_or (s ++ none) 4 0 ∷ get_or (s ++ none) 5 0 ∷ get_or (s ++ none) 0 0 ∷ get_or (s ++ none) 2 0 ∷ [] ≡ 0 ∷ 0 ∷ p ∷ q ∷ []
put_last s p q long =
    of_four (λ s. slice_index s 0 ≡ p → slice_index s 2 ≡ q
    → get_or (s ++ none) 4 0 ∷ get_or (s ++ none) 5 0 ∷ get_or (s ++ none) 0 0 ∷ get_or (s ++ none) 2 0 ∷ [] ≡ 0 ∷ 0 ∷ p ∷ q ∷ [])
    (λ a b c d e f. rw (e, f) refl) s long
