-- The numbers of a run's events: none is missing from 1 to the last, or one is the first that is. It states no standard.
--     AreNumbered      none is missing
--     IsMissing      this one is the first that is
--     UnlessMissing      a merge puts all pieces to the outputs, or tells which is missing
use Rattle.std.specs.Prelude.{◌≡◌, ◌<◌, ℕ, ◌+◌, List, ◌∷◌, ◌++◌, map, ⊤, Result, Ok, Err}
use Rattle.std.specs.List.{range_with_len}
use Rattle.part_merge.specs.Merged.{Piece}
use Rattle.part_merge.specs.declared.fault.MergeFault.{MergeFault}
use Rattle.part_merge.specs.declared.fault.MergeFault.TheVariants as faults

-- the numbers of pieces, in their order
abbrev pub numbers : List Piece → List ℕ
numbers pieces = map (λ (p : Piece). p.number) pieces

-- they are 1, 2 and so on
abbrev pub AreNumbered : List Piece → Type 0
AreNumbered pieces = (count : ℕ) × (numbers pieces ≡ range_with_len 1 count)

-- they are 1, 2 and so on up to the one before this, and then a greater one comes
pub record IsMissing (number : ℕ) (pieces : List Piece) : Type 0 where
  pub count : ℕ
  pub is : number ≡ count + 1
  pub next : ℕ
  pub greater : number < next
  pub behind : List ℕ
  pub numbered : numbers pieces ≡ range_with_len 1 count ++ next ∷ behind

-- why a merge of pieces stops: a device failed, or this number is missing
abbrev pub IsStop : List Piece → MergeFault → Type 0
IsStop pieces (faults.Read part) = ⊤
IsStop pieces (faults.Write target) = ⊤
IsStop pieces (faults.Missing number) = IsMissing number pieces
IsStop pieces (faults.Part part fault) = ⊥

module _ {T : Type 0} where
  -- a merge of pieces comes to its end where none is missing, and this holds then
  abbrev pub UnlessMissing : Result T MergeFault → List Piece → Type 0 → Type 0
  UnlessMissing (Ok x) pieces P = AreNumbered pieces × P
  UnlessMissing (Err fault) pieces P = IsStop pieces fault
