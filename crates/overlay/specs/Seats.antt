-- The segments in rows that stand densely, behind an index of VIDs. It serves proofs.
use Rattle.std.specs.Prelude.{◌≡◌, ℕ, ◌+◌, ◌<◌, Bool, false, ◌||◌, IsTrue, is_some, nat_le, List, [], ◌∷◌, length}
use Rattle.std.specs.Prelude.{Option, None, Some, Result, Ok, Err, get_or, map}
use Rattle.std.specs.Option.{option_map, option_map_or, option_and_then}
use Rattle.std.specs.Ordering.{nat_cmp}
use Rattle.std.specs.FinMap.{FinMap}
use Rattle.overlay.specs.Places.{placed}
use Rattle.overlay.specs.declared.underlay.heads.SegmentHeads.{SegmentHeads}
use Rattle.overlay.specs.UnderlayFlood.{Entries, is_wide}
use Rattle.overlay.specs.Overlay.{Segments}

-- what the row at a place holds, where the index has a place
abbrev pub look : {R X : Type 0} → (R → X) → List (Option R) → Option ℕ → Option X
look f rows at = option_map f (option_and_then (λ k. get_or rows k None) at)

-- what the rows hold, by the numbers at which the index has their places
abbrev pub seated : {R X : Type 0} → (R → X) → List (Option R) → List (Option ℕ) → FinMap nat_cmp X
seated f rows index = placed 0 (map (look f rows) index)

-- how many rows hold something
abbrev pub occupied : {R : Type 0} → List (Option R) → ℕ
occupied [] = 0
occupied (None ∷ rows) = occupied rows
occupied (Some r ∷ rows) = 1 + occupied rows

-- a place at which a number stands in the index has the row of that number
abbrev pub Leads : {R : Type 0} → (R → ℕ) → List (Option R) → List (Option ℕ) → Type 0
Leads number rows index = (q k : ℕ) → get_or index q None ≡ Some k → option_map number (get_or rows k None) ≡ Some q

-- the flood list of the row at a place is one that has a room
abbrev pub is_wide_at : {R : Type 0} → (R → Entries) → Option R → Bool
is_wide_at flood row = option_map_or (λ r. is_wide (flood r)) row false

-- what a list answered has a room
abbrev pub gives : {E : Type 0} → Result (Option ℕ) E → Bool
gives (Ok room) = is_some room
gives (Err e) = false

-- each place has a room, or its flood list has it, where lists of so many entries need one
pub record HasRooms {R : Type 0} (flood : R → Entries) (most : ℕ) (rows : List (Option R)) (rooms : List (Option ℕ)) : Type 0 where
  pub size : length rooms ≡ length rows
  pub each : (k : ℕ) → k < length rows → IsTrue (nat_le most 16 || is_some (get_or rooms k None) || is_wide_at flood (get_or rows k None))

-- the segments and the heads of their packets, each by its VID, the most of them that there is room for, and the most entries of a flood
-- list
pub record Seats : Type 0 where
  pub segments : Segments
  pub heads : FinMap nat_cmp SegmentHeads
  pub most : ℕ
  pub flood : ℕ
