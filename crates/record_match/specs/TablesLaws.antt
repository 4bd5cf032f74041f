-- Laws of tables. They state no standard.
use Rattle.std.specs.Prelude.{◌≡◌, ◌<◌, ◌==◌, ℕ, min, if◌then◌else◌, List, [], ◌∷◌, length, slice_index_or}
use Rattle.std.specs.List.{FoldsTo}
use Rattle.record_match.specs.Settled.{Fact}
use Rattle.record_match.specs.Delays.{Delays, IsOf, delays_behind, delays_with, no_delays}
use Rattle.record_match.specs.Lengths.{kind_of, length_of, no_row, row_with, with_fact}
use Rattle.record_match.specs.declared.tables.lengths.LengthRow.{LengthRow}

-- the row of a length behind some facts: one more for each fact of this length, and none for others
abbrev pub row_behind : ℕ → LengthRow → List Fact → LengthRow
row_behind n row [] = row
row_behind n row (fact ∷ facts) =
    row_behind n (if min (length_of fact) 262656 == n then row_with (kind_of fact) row else row) facts

-- what is told to a table of no records, one fact after another, makes each of its rows that of the facts of its length
abbrev pub EachRowIsOfItsFacts : Type 0
EachRowIsOfItsFacts =
    (old new : List LengthRow) (facts : List Fact) (n : ℕ) → length old ≡ 262657 → n < 262657
    → FoldsTo (λ old fact new. new ≡ with_fact fact old) old facts new
    → slice_index_or new n no_row ≡ row_behind n (slice_index_or old n no_row) facts

-- what is told to a table of no delays, one fact after another, makes it one of the delays of these facts
abbrev pub ItIsOfItsDelays : Type 0
ItIsOfItsDelays =
    (within : ℕ) (facts : List Fact) (table : Delays)
    → FoldsTo (λ old fact new. new ≡ delays_with fact old) (no_delays within) facts table
    → IsOf within table (delays_behind [] facts)
