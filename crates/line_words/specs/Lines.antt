-- The lines of a text, each ended by a line feed, and where two texts differ. It states no standard.
--     whole_lines      the parts between line feeds, without what stands behind the last line feed
--     differing_line   the number, from 1, of the line in which two texts first differ
use Rattle.std.specs.Prelude.{ℕ, ◌+◌, ◌==◌, List, [], ◌∷◌}
use Rattle.std.specs.List.{count_by, slice_split, take_while, zip}

abbrev pub all_but_last : List (List ℕ) → List (List ℕ)
all_but_last [] = []
all_but_last (part ∷ []) = []
all_but_last (part ∷ next ∷ more) = part ∷ all_but_last (next ∷ more)

abbrev pub whole_lines : List ℕ → List (List ℕ)
whole_lines text = all_but_last (slice_split (λ c. c == 10) text)

-- one more than the line feeds that stand in what both begin with
abbrev pub differing_line : List ℕ → List ℕ → ℕ
differing_line text other = count_by (λ p. p.0 == 10) (take_while (λ p. p.0 == p.1) (zip text other)) + 1
