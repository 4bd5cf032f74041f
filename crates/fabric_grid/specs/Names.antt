-- Some members of a network by their names, each behind a space. It states no standard.
use Rattle.std.specs.Prelude.{ℕ, ◌-◌, nat_le, nat_lt, Bool, ◌&&◌, if◌then◌else◌, List, [], ◌∷◌, ◌++◌, codes, decimal, length}
use Rattle.std.specs.Prelude.{slice_index_or, take, false, true}
use Rattle.fabric_grid.specs.Below.{count_below, texts_below}
use Rattle.fabric_grid.specs.Boxes.{agrees}

-- the name of a member
abbrev pub name_at : List (List ℕ) → ℕ → List ℕ
name_at names x = slice_index_or names x []

-- whether a member is among them
abbrev pub is_in : List Bool → ℕ → Bool
is_in set x = slice_index_or set x false

-- the name of a member, if it is among them, or if it isn't
abbrev pub word : List (List ℕ) → List Bool → Bool → ℕ → List ℕ
word names set wanted x = if agrees wanted (is_in set x) then 32 ∷ name_at names x else []

-- the names of those that are among them, or of those that aren't
abbrev pub words : List (List ℕ) → List Bool → Bool → List ℕ
words names set wanted = texts_below (word names set wanted) (length set)

-- how many are among them
abbrev pub many : List Bool → ℕ
many set = count_below (is_in set) (length set)

-- all of them, where at most one isn't among three or more; but for at most four, where more are; or else their names
unfoldable pub called : List (List ℕ) → List Bool → List ℕ
called names set =
    if nat_le (length set - many set) 1 && nat_lt 2 (length set) then codes " all"
    else if nat_le (length set - many set) 4 && nat_lt 4 (many set) then codes " all but" ++ words names set false
    else words names set true

-- titles of networks, the first four of them and how many more there are
abbrev pub others : List (List ℕ) → List ℕ
others [] = []
others (title ∷ titles) = codes ", " ++ title ++ others titles

abbrev pub listed : List (List ℕ) → List ℕ
listed [] = []
listed (title ∷ titles) = title ++ others titles

abbrev pub more_than : ℕ → ℕ → List ℕ
more_than most n = if nat_lt most n then codes " and " ++ decimal (n - most) ++ codes " more" else []

abbrev pub few : List (List ℕ) → List ℕ
few titles = listed (take 4 titles) ++ more_than 4 (length titles)
