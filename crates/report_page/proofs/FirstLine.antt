-- The first line of a text.
use Rattle.std.proofs.Common.{◌≡◌, ℕ, ◌==◌, Bool, true, false, cond, ◌<◌, List, [], ◌∷◌, length, refl, ap, arith}
use Rattle.std.specs.List.{onto_first}
use Rattle.line_words.proofs.Splits.{behind_shorter}
use Rattle.report_page.specs.Lines.{behind_line, first_line, lines_of}

onto_cases : (c : ℕ) (cs : List ℕ) → (0 < length cs → lines_of cs ≡ first_line cs ∷ lines_of (behind_line cs))
    → onto_first c (lines_of cs) ≡ (c ∷ first_line cs) ∷ lines_of (behind_line cs)
onto_cases c [] more = refl
onto_cases c (d ∷ ds) more = ap (onto_first c) (more (omega arith))

line_cases : (b : Bool) (c : ℕ) (cs : List ℕ) → (0 < length cs → lines_of cs ≡ first_line cs ∷ lines_of (behind_line cs))
    → cond b ([] ∷ lines_of cs) (onto_first c (lines_of cs)) ≡ cond b [] (c ∷ first_line cs) ∷ lines_of (cond b cs (behind_line cs))
line_cases true c cs more = refl
line_cases false c cs more = onto_cases c cs more

-- a text that isn't empty is its first line and those behind it
pub lines_split : (text : List ℕ) → 0 < length text → lines_of text ≡ first_line text ∷ lines_of (behind_line text)
lines_split [] some = absurd (omega arith)
lines_split (c ∷ cs) some = line_cases (c == 10) c cs (lines_split cs)

-- and what stands behind it is shorter
pub behind_line_shorter : (text : List ℕ) → 0 < length text → length (behind_line text) < length text
behind_line_shorter = behind_shorter 10
