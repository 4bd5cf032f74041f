-- What holds of the numbers below one, and what is counted and told of them. It states no standard.
--     all_below, count_below, sum_below      of which all hold; how many of them do; what they come to
--     each_below, texts_below                a truth for each, and a text for each, one behind another
use Rattle.std.specs.Prelude.{ℕ, zero, suc, ◌+◌, Bool, true, ◌&&◌, if◌then◌else◌, List, [], ◌∷◌, ◌++◌}

-- it holds of each
abbrev pub all_below : (ℕ → Bool) → ℕ → Bool
all_below p zero = true
all_below p (suc n) = all_below p n && p n

-- of so many it holds
abbrev pub count_below : (ℕ → Bool) → ℕ → ℕ
count_below p zero = 0
count_below p (suc n) = count_below p n + (if p n then 1 else 0)

-- the sum of what is told of each
abbrev pub sum_below : (ℕ → ℕ) → ℕ → ℕ
sum_below f zero = 0
sum_below f (suc n) = sum_below f n + f n

-- whether it holds of each, in a list
abbrev pub each_below : (ℕ → Bool) → ℕ → List Bool
each_below p zero = []
each_below p (suc n) = each_below p n ++ p n ∷ []

-- the texts of all, one behind another
abbrev pub texts_below : (ℕ → List ℕ) → ℕ → List ℕ
texts_below f zero = []
texts_below f (suc n) = texts_below f n ++ f n
