-- The first part of a text that is split at an octet.
use Rattle.std.proofs.Common.{◌≡◌, ◌≢◌, ℕ, zero, suc, ◌+◌, ◌<◌, eqb, List, [], ◌∷◌, length, take, drop, get_or, refl, ap, ◌∙◌, arith}
use Rattle.std.proofs.lemmas.Bool.{eq-eqb, ne_eqb, cond-true, cond-false}
use Rattle.std.specs.List.{slice_split, onto_first}
use Rattle.line_words.specs.Places.{IsFirst, LacksFrom}

split_none : (c : ℕ) (text : List ℕ) → ((k : ℕ) → k < length text → get_or text k 0 ≢ c) → slice_split (λ x. eqb x c) text ≡ text ∷ []
split_none c [] none = refl
split_none c (x ∷ xs) none =
    cond-false _ _ _ (ne_eqb x c (none 0 (omega arith))) ∙ ap (onto_first x) (split_none c xs (λ k lt. none (suc k) (omega arith)))

split_at : (c : ℕ) (text : List ℕ) (i : ℕ) → i < length text → get_or text i 0 ≡ c → ((k : ℕ) → k < i → get_or text k 0 ≢ c)
    → slice_split (λ x. eqb x c) text ≡ take i text ∷ slice_split (λ x. eqb x c) (drop (i + 1) text)
split_at c [] i inside here before = absurd (omega arith)
split_at c (x ∷ xs) zero inside here before = cond-true _ _ _ (eq-eqb x c here)
split_at c (x ∷ xs) (suc i) inside here before =
    let next : suc i + 1 ≡ suc (i + 1) = omega arith in
    rw next (cond-false _ _ _ (ne_eqb x c (before 0 (omega arith))) ∙ ap (onto_first x) (split_at c xs i (omega arith) here (λ k lt. before (suc k) (omega arith))))

pub split_lacks : (c : ℕ) (text : List ℕ) → LacksFrom c text 0 → slice_split (λ x. eqb x c) text ≡ text ∷ []
split_lacks c text lacks = split_none c text (λ k lt. lacks k (omega arith) lt)

pub split_found : (c : ℕ) (text : List ℕ) (at : ℕ) → IsFirst c text 0 at
    → slice_split (λ x. eqb x c) text ≡ take at text ∷ slice_split (λ x. eqb x c) (drop (at + 1) text)
split_found c text at first = split_at c text at first.inside first.here (λ k lt. first.before k (omega arith) lt)
