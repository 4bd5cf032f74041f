-- The sum of a frame.
use Rattle.std.proofs.Common.{◌≡◌, ℕ, ◌+◌, ◌%◌, List, ◌++◌, length, sym, ap, ◌∙◌, arith, append_assoc}
use Rattle.wire.specs.Sum.{total, folded}
use Rattle.wire.proofs.SumLemmas.{total-append_even}
use Rattle.wire.proofs.FoldLemmas.{folded-added}

-- from its addresses and its folded body
pub frame-sum : (dst src body addresses : List ℕ) (x : ℕ) → addresses ≡ dst ++ src → length addresses ≡ 12 → x ≡ folded (total addresses + folded (total body)) → x ≡ folded (total (dst ++ (src ++ body)))
frame-sum dst src body addresses x is twelve sum =
    let even : length addresses % 2 ≡ 0 = omega (arith, twelve) in
    sum ∙ folded-added (total addresses) (total body)
    ∙ ap folded (sym (total-append_even addresses body even) ∙ ap total (ap (λ (a : List ℕ). a ++ body) is ∙ append_assoc dst src body))
