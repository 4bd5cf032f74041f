-- Octets that spell one number are the same.
use Rattle.std.proofs.Common.{◌≡◌, ◌∙◌, ap, sym, ℕ, zero, suc, ◌+◌, ◌^◌, ◌/◌, ◌%◌, ◌<◌, ◌≤◌, ◌⊎◌, inl, inr, List, length, arith}
use Rattle.std.specs.Prelude.{slice_index}
use Rattle.std.proofs.lemmas.Bool.{cases_lt}
use Rattle.std.proofs.lemmas.Grind.{same_number_lists}
use Rattle.std.proofs.lemmas.List.{get_or_past}
use Rattle.std.proofs.lemmas.Nat.{div-mul-add, mod-mul-add}
use Rattle.std.specs.List.{All}
use Rattle.byteorder.specs.Endian.{big_from}
use Rattle.byteorder.specs.Numbers.{big_from-lt}
use Rattle.wire.specs.Octets.{IsText, field}

digits : (i n : ℕ) (xs ys : List ℕ) → IsText xs → IsText ys → big_from i n xs ≡ big_from i n ys → (k : ℕ) → i ≤ k → k < i + n → slice_index xs k ≡ slice_index ys k
digits i zero xs ys tx ty same k low high = absurd (omega (arith, low, high))
digits i (suc n) xs ys tx ty same k low high =
    let w = 256 ^ n in
    let first : slice_index xs i ≡ slice_index ys i =
    sym (div-mul-add (slice_index xs i) w (big_from (suc i) n xs) (big_from-lt (suc i) n xs tx)) ∙ ap (λ (m : ℕ). m / w) same ∙ div-mul-add (slice_index ys i) w (big_from (suc i) n ys) (big_from-lt (suc i) n ys ty) in
    let rest : big_from (suc i) n xs ≡ big_from (suc i) n ys =
    sym (mod-mul-add (slice_index xs i) w (big_from (suc i) n xs) (big_from-lt (suc i) n xs tx)) ∙ ap (λ (m : ℕ). m % w) same ∙ mod-mul-add (slice_index ys i) w (big_from (suc i) n ys) (big_from-lt (suc i) n ys ty) in
    by first (λ lt. digits (suc i) n xs ys tx ty rest k (omega (arith, lt)) (omega (arith, high))) (cases_lt i k)
  where
    by : slice_index xs i ≡ slice_index ys i → (i < k → slice_index xs k ≡ slice_index ys k) → (i < k) ⊎ (k ≤ i) → slice_index xs k ≡ slice_index ys k
    by first more (inl lt) = more lt
    by first more (inr le) =
        let here : k ≡ i = omega (arith, low, le) in
        ap (slice_index xs) here ∙ first ∙ sym (ap (slice_index ys) here)

text_of : (xs : List ℕ) → All (λ (x : ℕ). x < 256) xs → IsText xs
text_of xs fit i = by (cases_lt i (length xs))
  where
    by : (i < length xs) ⊎ (length xs ≤ i) → slice_index xs i < 256
    by (inl lt) = fit i 0 lt
    by (inr le) = omega (arith, get_or_past xs i 0 le)

pub octets_same : (n : ℕ) (xs ys : List ℕ) → length xs ≡ n → length ys ≡ n → All (λ (x : ℕ). x < 256) xs → All (λ (y : ℕ). y < 256) ys → field 0 n xs ≡ field 0 n ys → xs ≡ ys
octets_same n xs ys lx ly fx fy same = same_number_lists xs ys (lx ∙ sym ly) (λ k lt. digits 0 n xs ys (text_of xs fx) (text_of ys fy) same k (omega arith) (omega (arith, lt, lx)))
