-- Numbers in a row, with one number more.
use Rattle.std.proofs.Common.{◌≡◌, ◌∙◌, ap, sym, refl, ℕ, ◌+◌, Bool, List, [], ◌∷◌, ◌++◌, append-nil, cond, count_by, map, max, zero-add, add-one, arith}
use Rattle.std.specs.List.{flat_map, range_with_len, sum_by}
use Rattle.std.proofs.lemmas.List.{map-id}
use Rattle.std.proofs.lemmas.List.FromFn.{map-range_with_len_more, sum_by-map-range_with_len_more}
use Rattle.std.proofs.lemmas.Grind.{flat_map-append}
use Rattle.std.specs.List.{sum}
use Rattle.report_page.specs.Series.{greatest, sum_of, together}
use Rattle.report_page.specs.Texts.{each}

pub range_more : (from n number : ℕ) → from + n ≡ number → range_with_len from (n + 1) ≡ range_with_len from n ++ number ∷ []
range_more from n number is =
    sym (map-id (range_with_len from (n + 1))) ∙ map-range_with_len_more (λ (k : ℕ). k) from n number is
    ∙ ap (λ (xs : List ℕ). xs ++ number ∷ []) (map-id (range_with_len from n))

-- the texts with one more
pub each_more : (text : ℕ → List ℕ) (n : ℕ) → each text n ++ text n ≡ each text (n + 1)
unfolding each
each_more text n =
    ap (λ (t : List ℕ). flat_map text (range_with_len 0 n) ++ t) (sym (append-nil (text n)))
    ∙ sym (flat_map-append text (range_with_len 0 n) (n ∷ []))
    ∙ sym (ap (flat_map text) (range_more 0 n n (zero-add n)))

-- a sum with one more, and the greatest
pub together_more : (number : ℕ → ℕ) (n : ℕ) → sum_of (together number n) (number n) ≡ together number (n + 1)
unfolding together
together_more number n =
    let more : sum (map number (range_with_len 0 (n + 1))) ≡ sum (map number (range_with_len 0 n)) + number n =
    sum_by-map-range_with_len_more (λ (k : ℕ). k) number 0 n n (zero-add n) in
    omega (arith, more)

pub greatest_more : (number : ℕ → ℕ) (n : ℕ) → max (greatest number n) (number n) ≡ greatest number (n + 1)
unfolding greatest
greatest_more number n = rw add-one refl

-- a count with one more
pub count_more : (p : ℕ → Bool) (from n number : ℕ) → from + n ≡ number
    → count_by p (range_with_len from (n + 1)) ≡ count_by p (range_with_len from n) + cond (p number) 1 0
count_more p from n number is =
    let one : ℕ → ℕ = λ k. cond (p k) 1 0 in
    ap (sum_by one) (sym (map-id (range_with_len from (n + 1)))) ∙ sum_by-map-range_with_len_more one (λ (k : ℕ). k) from n number is
    ∙ ap (λ (xs : List ℕ). sum_by one xs + one number) (map-id (range_with_len from n))
