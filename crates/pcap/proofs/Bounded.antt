-- What is read of a text step by step, where a bound on the steps makes it end: a bound above the size leaves nothing out.
use Rattle.std.proofs.Common.{◌≡◌, ◌∙◌, sym, ℕ, zero, suc, ◌<◌, arith}

enough : {S R : Type 0} (size : S → ℕ) (first : ℕ → S → R) (step : (S → R) → S → R)
    → ((n : ℕ) (s : S) → first (suc n) s ≡ step (first n) s)
    → ((f g : S → R) (s : S) → ((rest : S) → size rest < size s → f rest ≡ g rest) → step f s ≡ step g s)
    → (n m : ℕ) (s : S) → size s < n → size s < m → first n s ≡ first m s
enough size first step steps same zero m s a b = absurd (omega arith)
enough size first step steps same (suc n) zero s a b = absurd (omega arith)
enough size first step steps same (suc n) (suc m) s a b =
    steps n s
    ∙ same (first n) (first m) s (λ rest less. enough size first step steps same n m rest (omega (arith, less, a)) (omega (arith, less, b)))
    ∙ sym (steps m s)

-- where each step reads less behind it, the reading with a bound above the size is one step and the reading behind that
pub one_step : {S R : Type 0} (size : S → ℕ) (first : ℕ → S → R) (step : (S → R) → S → R)
    → ((n : ℕ) (s : S) → first (suc n) s ≡ step (first n) s)
    → ((f g : S → R) (s : S) → ((rest : S) → size rest < size s → f rest ≡ g rest) → step f s ≡ step g s)
    → (s : S) → first (suc (size s)) s ≡ step (λ rest. first (suc (size rest)) rest) s
one_step size first step steps same s =
    steps (size s) s
    ∙ same (first (size s)) (λ rest. first (suc (size rest)) rest) s
    (λ rest less. enough size first step steps same (size s) (suc (size rest)) rest less (omega arith))
