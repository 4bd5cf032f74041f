-- Tables of what is counted of keys, which are ordered by their ranks. It states no standard.
--     with_counts, all_counts      what is counted of all keys, as a finite map in the order of their ranks
--     Rows, shown      its first rows, and what the others come to
--     counted, together      the same with more of a key, and with all of another table
use Rattle.std.specs.Prelude.{◌≡◌, ◌<◌, ◌≤◌, ℕ, suc, Bool, false, nat_lt, if◌then◌else◌, ⊤, List, [], ◌∷◌}
use Rattle.std.specs.Prelude.{length, take, drop, slice_index_or, Option, None, Some}
use Rattle.std.specs.List.{All, Contains, flat_map}
use Rattle.ranked_rows.specs.declared.key_count.KeyCount.{KeyCount}

-- ---- finite maps, as lists in the order of the ranks of their keys

-- a key, and what is counted of it
abbrev pub row_of : {K C : Type 0} → K → C → KeyCount K C
row_of key counts = record { key = key; counts = counts }

-- with more of a key
abbrev pub with_counts : {K C : Type 0} → (K → ℕ) → (C → C → C) → K → C → List (KeyCount K C) → List (KeyCount K C)
with_counts rank joined key counts [] = row_of key counts ∷ []
with_counts rank joined key counts (row ∷ rows) =
    if nat_lt (rank row.key) (rank key) then row ∷ with_counts rank joined key counts rows
    else if nat_lt (rank key) (rank row.key) then row_of key counts ∷ row ∷ rows
    else row_of row.key (joined row.counts counts) ∷ rows

-- with what many rows tell, one after another
abbrev pub all_counts : {K C : Type 0} → (K → ℕ) → (C → C → C) → List (KeyCount K C) → List (KeyCount K C) → List (KeyCount K C)
all_counts rank joined rows [] = rows
all_counts rank joined rows (more ∷ others) = all_counts rank joined (with_counts rank joined more.key more.counts rows) others

-- what rows come to
abbrev pub total : {K C : Type 0} → (C → C → C) → C → List (KeyCount K C) → C
total joined none [] = none
total joined none (row ∷ rows) = joined row.counts (total joined none rows)

-- what is counted, or nothing where nothing is
abbrev pub counted_or : {C : Type 0} → C → Option C → C
counted_or none None = none
counted_or none (Some counts) = counts

-- ---- tables

-- some rows, and what the others come to
pub record Rows (K C : Type 0) : Type 0 where
  pub rows : List (KeyCount K C)
  pub others : C

-- so many first rows of a map
abbrev pub shown : {K C : Type 0} → (C → C → C) → C → ℕ → List (KeyCount K C) → Rows K C
shown joined none most rows = record { rows = take most rows; others = total joined none (drop most rows) }

-- a table of nothing
abbrev pub no_rows : {K C : Type 0} → C → Rows K C
no_rows none = record { rows = []; others = none }

-- with more of a key, in a table of so many rows
abbrev pub counted_in : {K C : Type 0} → (K → ℕ) → (C → C → C) → C → ℕ → Rows K C → K → C → Rows K C
counted_in rank joined none most table key counts = record {
  rows = take most (with_counts rank joined key counts table.rows);
  others = joined table.others (total joined none (drop most (with_counts rank joined key counts table.rows)));
}

-- in one of 4,096
abbrev pub counted : {K C : Type 0} → (K → ℕ) → (C → C → C) → C → Rows K C → K → C → Rows K C
counted rank joined none table key counts = counted_in rank joined none 4096 table key counts

-- with what many rows tell
abbrev pub counted_all : {K C : Type 0} → (K → ℕ) → (C → C → C) → C → Rows K C → List (KeyCount K C) → Rows K C
counted_all rank joined none table [] = table
counted_all rank joined none table (row ∷ rows) = counted_all rank joined none (counted rank joined none table row.key row.counts) rows

-- with more of the others
abbrev pub with_others : {K C : Type 0} → (C → C → C) → Rows K C → C → Rows K C
with_others joined table counts = record { rows = table.rows; others = joined table.others counts }

-- with all that another table shows
abbrev pub together : {K C : Type 0} → (K → ℕ) → (C → C → C) → C → Rows K C → Rows K C → Rows K C
together rank joined none table other = with_others joined (counted_all rank joined none table other.rows) other.others

-- ---- order

-- ranks rise, from this one on
abbrev pub AreRisingFrom : {K C : Type 0} → (K → ℕ) → ℕ → List (KeyCount K C) → Type 0
AreRisingFrom rank least [] = ⊤
AreRisingFrom rank least (row ∷ rows) = (least ≤ rank row.key) × AreRisingFrom rank (suc (rank row.key)) rows

-- ranks rise: no two rows have the same
abbrev pub AreRising : {K C : Type 0} → (K → ℕ) → List (KeyCount K C) → Type 0
AreRising rank rows = AreRisingFrom rank 0 rows

-- all rows before this place have lesser ranks, and no others
pub record IsPlaceOf {K C : Type 0} (rank : K → ℕ) (least : ℕ) (rows : List (KeyCount K C)) (at : ℕ) : Type 0 where
  pub inside : at ≤ length rows
  pub before : (k : ℕ) (d : KeyCount K C) → k < at → rank (slice_index_or rows k d).key < least
  pub behind : (k : ℕ) (d : KeyCount K C) → at ≤ k → k < length rows → least ≤ rank (slice_index_or rows k d).key

-- ---- rows by numbers: each stays where it came, and their numbers stand in the order of their ranks

-- the row of this number alone, or none
abbrev pub row_at : {K C : Type 0} → List (KeyCount K C) → ℕ → List (KeyCount K C)
row_at rows number = take 1 (drop number rows)

-- the rows of these numbers
abbrev pub rows_by : {K C : Type 0} → List (KeyCount K C) → List ℕ → List (KeyCount K C)
rows_by rows order = flat_map (row_at rows) order

-- the first of these has a lesser rank
abbrev pub stands_before : {K C : Type 0} → (K → ℕ) → ℕ → List (KeyCount K C) → Bool
stands_before rank least [] = false
stands_before rank least (row ∷ rows) = nat_lt (rank row.key) least

-- as many numbers as rows, each a row's, and no row without one
pub record IsNumbering {K C : Type 0} (rows : List (KeyCount K C)) (order : List ℕ) : Type 0 where
  pub inside : All (λ number. number < length rows) order
  pub whole : (number : ℕ) → number < length rows → Contains order number
  pub many : length order ≡ length rows
