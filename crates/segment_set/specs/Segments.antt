-- Which segments a part of a run asks for. It states no standard.
use Rattle.std.specs.Prelude.{◌≡◌, refl, ℕ, Bool, true, false, List, slice_index_or, Option, Some, None}
use Rattle.std.specs.Coded.{Coded, code_by, coded×, coded_bool, coded_list, coded_option}
use Rattle.segment_set.specs.declared.set.Picked.{Picked}

-- the segments that are asked for
pub data Segments : Type 0 where
  -- all, and what comes to none
  All : Segments
  -- those with true at their VID, from 0 on; and what comes to none, or not
  Only : (vids : List Bool) (none : Bool) → Segments

-- a segment is asked for; None: what comes to no segment is
abbrev pub holds : Segments → Option ℕ → Bool
holds All segment = true
holds (Only vids none) (Some vid) = slice_index_or vids vid false
holds (Only vids none) None = none

-- ---- in the program

-- the segments that are picked, or all
abbrev pub segments_of : Option Picked → Segments
segments_of None = All
segments_of (Some p) = Only p.vids p.none

abbrev picks : Segments → Option (List Bool × Bool)
picks All = None
picks (Only vids none) = Some (vids, none)

abbrev picked : Option (List Bool × Bool) → Segments
picked None = All
picked (Some p) = Only p.0 p.1

pub picked_back : (s : Segments) → picked (picks s) ≡ s
picked_back All = refl
picked_back (Only vids none) = refl

-- stored as what is picked, or as nothing
abbrev pub segments_code : Coded Segments
segments_code = code_by (Option (List Bool × Bool)) (coded_option (coded× (coded_list coded_bool) coded_bool)) picks picked picked_back
