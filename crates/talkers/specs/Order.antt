-- The largest first. It states no standard.
use Rattle.std.specs.Prelude.{ℕ, ◌+◌, ◌*◌, ◌-◌, ◌^◌, nat_lt, if◌then◌else◌, List, [], ◌∷◌}
use Rattle.ranked_rows.specs.declared.key_count.KeyCount.{KeyCount}
use Rattle.ranked_rows.specs.declared.since.Since.{Since}
use Rattle.talkers.specs.declared.rows.talk.Talk.{Talk}
use Rattle.talkers.specs.declared.rows.passed.Passed.{Passed}

-- a row is put in front of those that are no smaller by this number
abbrev pub put_in : {X : Type 0} → (X → ℕ) → X → List X → List X
put_in number x [] = x ∷ []
put_in number x (y ∷ ys) = if nat_lt (number y) (number x) then y ∷ put_in number x ys else x ∷ y ∷ ys

-- all of them in order; those of one number stay in theirs
abbrev pub in_order : {X : Type 0} → (X → ℕ) → List X → List X
in_order number [] = []
in_order number (x ∷ xs) = put_in number x (in_order number xs)

-- segments rise, and in each the row with the most octets stands first
abbrev pub place_in_order : KeyCount Talk (Since Passed) → ℕ
place_in_order row = row.key.vid * 2 ^ 64 + (2 ^ 64 - 1 - row.counts.counts.octets)

-- rows, the largest of each segment first; those of one size stay in their order
abbrev pub largest_first : List (KeyCount Talk (Since Passed)) → List (KeyCount Talk (Since Passed))
largest_first rows = in_order place_in_order rows
