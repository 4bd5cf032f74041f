-- Texts that are put one behind another.
use Rattle.std.proofs.Common.{◌≡◌, ◌∙◌, ap, append_assoc, ℕ, List, ◌++◌}

-- three
pub three-put : (before one two three a b c : List ℕ) → a ≡ before ++ one → b ≡ a ++ two → c ≡ b ++ three → c ≡ before ++ ((one ++ two) ++ three)
three-put before one two three a b c first second third =
    third
    ∙ ap (λ (z : List ℕ). z ++ three) (second ∙ ap (λ (z : List ℕ). z ++ two) first ∙ append_assoc before one two)
    ∙ append_assoc before (one ++ two) three

-- a story: facts, and a line of a front, a segment with a space, a reply and an end
pub story-put : (F L G R N a b c d : List ℕ) → a ≡ F → b ≡ a ++ (L ++ G) → c ≡ b ++ R → d ≡ c ++ N → d ≡ F ++ (L ++ ((G ++ R) ++ N))
story-put F L G R N a b c d facts front reply end =
    end
    ∙ ap (λ (z : List ℕ). z ++ N) (reply ∙ ap (λ (z : List ℕ). z ++ R) (front ∙ ap (λ (z : List ℕ). z ++ (L ++ G)) facts))
    ∙ ap (λ (z : List ℕ). z ++ N) (append_assoc F (L ++ G) R)
    ∙ append_assoc F ((L ++ G) ++ R) N
    ∙ ap (λ (z : List ℕ). F ++ (z ++ N)) (append_assoc L G R)
    ∙ ap (λ (z : List ℕ). F ++ z) (append_assoc L (G ++ R) N)

-- two, and what is put behind them
pub two-put : (before one two three a b : List ℕ) → a ≡ before ++ one → b ≡ a ++ two → b ++ three ≡ before ++ ((one ++ two) ++ three)
two-put before one two three a b first second =
    ap (λ (z : List ℕ). z ++ three) (second ∙ ap (λ (z : List ℕ). z ++ two) first ∙ append_assoc before one two)
    ∙ append_assoc before (one ++ two) three
