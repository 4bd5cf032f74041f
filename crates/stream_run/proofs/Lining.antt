-- A line that is made piece by piece.
use Rattle.std.proofs.Common.{◌≡◌, ◌∙◌, ap, ℕ, Bool, true, false, cond, List, ◌∷◌, ◌++◌, append_assoc}
use Rattle.endpoint_core.specs.Decision.{Sent}
use Rattle.endpoint_core.specs.Text.{further_text, outcome_text, outcomes_text}
use Rattle.decision_lines.specs.Outcomes.{gap}

-- one outcome more
pub text_more : (two is_first : Bool) (line start new : List ℕ) (x : Sent) (xs : List Sent) → line ++ cond is_first (outcomes_text two (x ∷ xs)) (further_text two (x ∷ xs)) ≡ start
    → new ≡ line ++ (gap is_first ++ outcome_text two x) → new ++ further_text two xs ≡ start
text_more two true line start new x xs before is =
    ap (λ l. l ++ further_text two xs) is ∙ append_assoc line (outcome_text two x) (further_text two xs) ∙ before
text_more two false line start new x xs before is =
    ap (λ l. l ++ further_text two xs) is ∙ append_assoc line (32 ∷ outcome_text two x) (further_text two xs) ∙ before

-- the pieces of a line
pub pieces : (a b c d e : List ℕ) → ((a ++ (b ++ c)) ++ d) ++ e ≡ a ++ ((b ++ c ++ d) ++ e)
pieces a b c d e = simp append_assoc
