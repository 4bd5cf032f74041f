-- What left at each outlet: rows by the names of places in the order in which they came, at most 512, and one row of all
-- others behind them. It states no standard.
use Rattle.std.specs.Prelude.{ℕ, ◌==◌, nat_lt, if◌then◌else◌, List, [], ◌∷◌, ◌++◌, length, take, position, slice_index, slice_index_or}
use Rattle.std.specs.Prelude.{codes, Option, Some, None, unwrap_or}
use Rattle.wire.specs.Octets.{is_same}
use Rattle.report_counts.specs.Tables.{added, added_in, zeros, zero_rows}
use Rattle.report_counts.specs.declared.outcomes.Passage.{Passage}
use Rattle.report_counts.specs.declared.outcomes.Passage.TheVariants.{Left, Unsent}
use Rattle.report_counts.specs.declared.outlets.Outlet.{Outlet}
use Rattle.report_counts.specs.declared.outlets.Outlets.{Outlets}

-- ---- names

-- the number of a name among others
abbrev pub place_in : List ℕ → List (List ℕ) → Option ℕ
place_in name names = position (λ other. is_same other name) names

-- names with one more behind them, where there is room
abbrev pub with_room : List ℕ → List (List ℕ) → List (List ℕ)
with_room name names = if nat_lt (length names) 512 then names ++ name ∷ [] else names

-- names with this one among them, where it is or there is room
abbrev pub with_name : List ℕ → List (List ℕ) → List (List ℕ)
with_name name names = elim (place_in name names) [ Some row ↦ names | None ↦ with_room name names ]

-- the row of a name: its number among the names, and the last for all others
abbrev pub row_of : List ℕ → List (List ℕ) → ℕ
row_of name names = unwrap_or (place_in name names) 512

-- the name that is shown of an outlet
abbrev pub name_of : ℕ → List (List ℕ) → List ℕ
name_of outlet names = if outlet == 512 then codes "others" else slice_index_or names outlet []

-- ---- counts

-- nothing left yet
abbrev pub no_outlets : Outlets
no_outlets = record { names = []; frames = zeros 513; octets = zeros 513; faults = zeros 513; spans = zero_rows 64 513 }

-- what left at the outlet of a row
abbrev pub outlet_of : Outlets → ℕ → Outlet
outlet_of o row = record { frames = slice_index o.frames row; octets = slice_index o.octets row; faults = slice_index o.faults row }

-- one frame more that passed at the outlet of a row in a span, or didn't
abbrev pub passed_at : ℕ → Passage → ℕ → Outlets → Outlets
passed_at row (Left octets) span o =
    record o { frames = added row 1 o.frames; octets = added row octets o.octets; spans = added_in row span 1 o.spans }
passed_at row (Unsent reason) span o = record o { faults = added row 1 o.faults }

-- outlets with a place's name among theirs, where there is room
abbrev pub with_place : List ℕ → Outlets → Outlets
with_place place o = record o { names = with_name (take 55 place) o.names }

-- one frame more that passed at a place in a span, or didn't
abbrev pub with_passage : List ℕ → Passage → ℕ → Outlets → Outlets
with_passage place passage span o =
    passed_at (row_of (take 55 place) (with_place place o).names) passage span (with_place place o)
