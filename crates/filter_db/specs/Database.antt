-- The tables of all segments as one value. It states no standard.
use Rattle.std.specs.Prelude.{refl, ℕ, List, map, Option, None, slice_get}
use Rattle.std.specs.Option.{option_map, unwrap_or}
use Rattle.std.specs.Coded.{Coded, code_by, coded×, coded_ℕ, coded_list, coded_option}
use Rattle.filter_db.specs.Code.{segment_code}
use Rattle.filter_db.specs.Segment.{Segment, Segments, aged, aged_all}

-- the segments at a moment
pub record Database : Type 0 where
  -- the latest moment that a call brought
  pub moment : ℕ
  -- at the place of each VID its segment, where it has one
  pub segments : List (Option Segment)

-- a database is stored as the pair of its fields
abbrev pub database_code : Coded Database
database_code =
    code_by (ℕ × List (Option Segment)) (coded× coded_ℕ (coded_list (coded_option segment_code)))
    (λ d. (d.moment, d.segments)) (λ p. record { moment = p.0; segments = p.1 }) (λ _. refl)

-- tables at a moment: what is dead then is no part of them
abbrev pub database_at : ℕ → List (Option Segment) → Database
database_at t segments = record { moment = t; segments = map (option_map (aged t)) segments }

-- what stands at the place of a VID; nothing behind the end
abbrev pub slot : List (Option Segment) → Segments
slot segments = λ vid. unwrap_or (slice_get segments vid) None

-- the segments that a database holds, each with what is live at its moment
abbrev pub segments_of : Database → Segments
segments_of d = aged_all d.moment (slot d.segments)
