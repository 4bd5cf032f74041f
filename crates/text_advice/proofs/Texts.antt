-- Texts that are put one behind the other.
use Rattle.std.proofs.Common.{◌≡◌, ℕ, List, ◌++◌, append_assoc, ap, ◌∙◌}

-- three parts behind a text
pub three_parts : (text a b c : List ℕ) → ((text ++ a) ++ b) ++ c ≡ text ++ ((a ++ b) ++ c)
three_parts text a b c = ap (λ x. x ++ c) (append_assoc text a b) ∙ append_assoc text (a ++ b) c
