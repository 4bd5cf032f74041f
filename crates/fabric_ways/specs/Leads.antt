-- What steps lead to. It states no standard.
use Rattle.std.specs.Prelude.{◌≡◌, ℕ, ◌<◌, Bool, true, false, not, List, length, count_by, slice_index, slice_index_or}

-- a set has each number of a list
abbrev pub HasAll : (ℕ → Bool) → List ℕ → Type 0
HasAll p xs = (k : ℕ) → k < length xs → p (slice_index xs k) ≡ true

-- a set that no step leaves
abbrev pub IsClosed : (ℕ → List ℕ) → (ℕ → Bool) → Type 0
IsClosed row p = (s : ℕ) → p s ≡ true → HasAll p (row s)

-- one or more steps lead from s to t: t is in each set that has the steps from s and that no step leaves
abbrev pub Leads : (ℕ → List ℕ) → ℕ → ℕ → Type 0
Leads row s t = (p : ℕ → Bool) → HasAll p (row s) → IsClosed row p → p t ≡ true

-- ---- as lists of marks

-- a number is marked
abbrev pub is_found : List Bool → ℕ → Bool
is_found found t = slice_index_or found t false

-- what is marked is in a set
abbrev pub IsWithin : List Bool → (ℕ → Bool) → Type 0
IsWithin found p = (t : ℕ) → is_found found t ≡ true → p t ≡ true

-- what is marked stays marked
abbrev pub Keeps : List Bool → List Bool → Type 0
Keeps old new = IsWithin old (is_found new)

-- how many aren't marked
abbrev pub left : List Bool → ℕ
left found = count_by not found

-- each number of the rows is below a bound
abbrev pub IsBelow : ℕ → (ℕ → List ℕ) → Type 0
IsBelow n row = (s k : ℕ) → k < length (row s) → slice_index (row s) k < n
