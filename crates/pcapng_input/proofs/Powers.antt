-- Division by powers.
use Rattle.std.proofs.Common.{◌≡◌, ◌∙◌, sym, ap, ℕ, ◌+◌, ◌/◌, ◌^◌, add-one}
use Rattle.std.proofs.Math.Nat.{div-div-eq-div-mul, div-one, pow-suc, pow-zero}

-- no division
pub divided_none : (n b : ℕ) → n ≡ n / b ^ 0
divided_none n b = sym (ap (λ x. n / x) (pow-zero b) ∙ div-one n)

-- one more
pub divided_more : (n b t left : ℕ) → left ≡ n / b ^ t → left / b ≡ n / b ^ (t + 1)
divided_more n b t left is =
    ap (λ x. x / b) is ∙ div-div-eq-div-mul n (b ^ t) b ∙ ap (λ x. n / x) (sym (ap (λ k. b ^ k) (add-one t) ∙ pow-suc b t))
