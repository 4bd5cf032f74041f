-- The known key that is nearest to a word. It states no standard.
use Rattle.std.specs.Prelude.{ℕ, List, [], ◌∷◌, length, nat_eq, nat_le, Option, Some, None, if◌then◌else◌}
use Rattle.strsim.specs.Edits.{levenshtein_row}

-- the least number of characters to put in, to leave out or to change that lead from one text to the other
unfoldable pub distance : List ℕ → List ℕ → ℕ
distance a b = levenshtein_row nat_eq a b (length b)

-- the first key that is at most so many edits away
abbrev pub within : ℕ → List ℕ → List (List ℕ) → Option (List ℕ)
within most word [] = None
within most word (k ∷ ks) = if nat_le (distance word k) most then Some k else within most word ks

-- the first of two that is there
abbrev pub or_else : {A : Type 0} → Option A → Option A → Option A
or_else None other = other
or_else (Some x) other = Some x

-- the first key that is at most one edit away, or else, of a word of four characters or more, the first that is two away
abbrev pub nearest : List ℕ → List (List ℕ) → Option (List ℕ)
nearest word keys = or_else (within 1 word keys) (if nat_le 4 (length word) then within 2 word keys else None)
